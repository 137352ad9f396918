use Rattle.std.proofs.Common.{◌≡◌, ℕ, ◌<◌, false}
use Rattle.std.specs.Option.{IsSome}
use Rattle.kom_queues.specs.Slots.{slot_of, is_there}
use Rattle.kom_state.proofs.opening.queues_for.Given as goal

abbrev pub invariant-loop-x : goal.invariant-loop-x
invariant-loop-x l = record {
  not_there : (y : ℕ) → is_there l.queues y ≡ false;
  slots : (y : ℕ) → y < l.x → IsSome (slot_of l.queues y);
}
