use Rattle.kom_state.specs.Removals.{IsCutOut}
use Rattle.std.proofs.Common.{◌-◌}
use Rattle.kom_state.proofs.cutting.cut.Given as goal

abbrev pub invariant-loop-x : goal.invariant-loop-x
invariant-loop-x l = IsCutOut l.first (l.x - l.first) l.fn.wiring l.wiring l.fn.queues l.queues
