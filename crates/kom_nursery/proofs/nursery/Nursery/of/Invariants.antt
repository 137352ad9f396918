use Rattle.std.proofs.Common.{take}
use Rattle.kom_nursery.proofs.Broods.{IsSoFar}
use Rattle.kom_nursery.proofs.nursery.Nursery.of.Given as goal

abbrev pub invariant-loop-k : goal.invariant-loop-k
invariant-loop-k l = IsSoFar l.system.declarations l.c l.depth l.first (take l.k l.effects) l.number l.broods.items
