use Rattle.std.proofs.Common.{sym}
use Rattle.kom_core.specs.Standing.{is_legal}
use Rattle.kom_seats.proofs.tests.duo.Closed.trace.Goals as goal

pub write_trace-requires-clause-legal : goal.write_trace-requires-clause-legal
write_trace-requires-clause-legal c =
    let core = c.args.self.now.core in
    rw (c.deref.ensures, c.kept-kept.ensures, sym c.requires.0, sym c.requires.1) (is_legal core.run core.stands)
