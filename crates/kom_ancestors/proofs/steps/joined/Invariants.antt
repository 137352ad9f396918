use Rattle.std.proofs.Common.{◌≡◌, take}
use Rattle.kom_ancestors.specs.Far.{joined_to}
use Rattle.kom_ancestors.proofs.steps.joined.Given as goal

abbrev pub invariant-loop-next : goal.invariant-loop-next
invariant-loop-next l = l.both ≡ joined_to (take l.next-index l.first) l.after
