use Rattle.std.proofs.Common.{◌≡◌, ℕ, ◌<◌, ◌≤◌, true}
use Rattle.kom_state.specs.Parts.{state_of, has_queues}
use Rattle.kom_state.specs.Rooms.{IsSame, HasNoLess}
use Rattle.kom_births.proofs.rooms.reserve_queues.Given as goal

abbrev pub invariant-loop-x : goal.invariant-loop-x
invariant-loop-x l = record {
  same : IsSame (state_of l.fn.state) (state_of l.state);
  not_less : HasNoLess l.fn.state l.state;
  queues : (y : ℕ) → l.first ≤ y → y < l.x → has_queues l.state y ≡ true;
}
