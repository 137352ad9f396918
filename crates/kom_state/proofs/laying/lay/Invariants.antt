use Rattle.std.proofs.Common.{take}
use Rattle.kom_state.specs.Plantings.{IsLaid}
use Rattle.kom_state.proofs.laying.lay.Given as goal

abbrev pub invariant-loop-k : goal.invariant-loop-k
invariant-loop-k l = IsLaid l.numbers l.first (take l.k l.links) l.fn.wiring l.wiring l.fn.queues l.queues
