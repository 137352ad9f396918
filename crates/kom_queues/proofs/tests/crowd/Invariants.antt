use Rattle.std.proofs.Common.{◌-◌, ◌≡◌, ℕ, ◌≤◌, false}
use Rattle.kom_queues.specs.Slots.{is_there}
use Rattle.kom_queues.proofs.tests.crowd.Given as goal

abbrev pub invariant-loop-x : goal.invariant-loop-x
invariant-loop-x l = (y : ℕ) → l.x ≤ y → is_there l.queues y ≡ false

abbrev pub decreases-loop-x : goal.decreases-loop-x
decreases-loop-x l = l.count - l.x
