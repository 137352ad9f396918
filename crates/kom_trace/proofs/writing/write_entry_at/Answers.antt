use Rattle.std.proofs.Common.{sym}
use Rattle.kom_trace.proofs.Written.{there_is}
use Rattle.kom_trace.proofs.writing.write_entry_at.Goals as goal

pub unreachable-requires : goal.unreachable-requires
unreachable-requires g c = there_is c.args.kept.now.history c.args.i c.requires (sym c.in-None.ensures)
