use Rattle.std.proofs.Common.{◌≡◌, length, take}
use Rattle.kom_nursery.specs.Nurseries.{all_of}
use Rattle.kom_nursery.proofs.nursery.Nursery.instances.Given as goal

abbrev pub invariant-loop-brood : goal.invariant-loop-brood
invariant-loop-brood l = l.count ≡ length (all_of (take l.brood-index l.self))
