use Rattle.std.proofs.Common.{length, arith}
use Rattle.kom_events.proofs.Walks.{table-whole}
use Rattle.kom_events.proofs.event_types.EventTypes.build.Goals as goal

pub invariant_of-result : goal.invariant_of-result
invariant_of-result c = rw c.in_ok-from_slice.ensures (table-whole (length c.args.rows.now) c.args.rows.now c.loop-a.ancestors (omega arith) (λ b h. c.loop-a.invariant.lists b (omega (arith, h))))
