use Rattle.std.proofs.Common.{◌≡◌, map, take}
use Rattle.kom_resolve.specs.Resolved.{kind_value}
use Rattle.kom_resolve.proofs.system.kinds.Given as goal

abbrev pub invariant-loop-k : goal.invariant-loop-k
invariant-loop-k l = l.kinds ≡ map (kind_value l.whole.parts.now) (take l.k l.whole.parts.now.components)
