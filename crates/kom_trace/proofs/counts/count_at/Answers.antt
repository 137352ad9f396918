use Rattle.std.proofs.Common.{sym, subst}
use Rattle.kom_trace.specs.Counting.{HasCounted, first_entries}
use Rattle.kom_trace.proofs.Written.{there_is, first_more, next_legal}
use Rattle.kom_trace.proofs.counts.count_at.Goals as goal

pub unreachable-requires : goal.unreachable-requires
unreachable-requires c = there_is c.args.kept.now.history c.args.i c.requires (sym c.in-None.ensures)

pub returns : goal.returns
returns c S Z l h =
    let R = c.args.kept.now.history in
    let i = c.args.i in
    let e = c.in-Some.entry.now in
    let at = sym c.in-Some.ensures in
    subst (HasCounted S c.note.new.self) (sym (first_more i R e c.requires at)) (c.note.ensures S Z (first_entries i R) (c.reserve.ensures.same S (first_entries i R) h) (next_legal S Z i R e c.requires at l))
