use Rattle.std.proofs.Common.{◌≡◌, ◌+◌, length, take}
use Rattle.kom_numbers.specs.Numbering.{total}
use Rattle.kom_state.specs.Parts.{state_of}
use Rattle.kom_state.specs.Rooms.{IsSame, HasNoLess}
use Rattle.kom_births.specs.Seeds.{links_of}
use Rattle.kom_births.specs.Sowing.{HasOwnRooms}
use Rattle.kom_nursery.specs.Nurseries.{all_of}
use Rattle.kom_nursery.proofs.nursery.Nursery.make_room.Given as goal

abbrev pub invariant-loop-brood : goal.invariant-loop-brood
invariant-loop-brood l = record {
  same : IsSame (state_of l.fn.state) (state_of l.state);
  not_less : HasNoLess l.fn.state l.state;
  first : l.first ≡ length (state_of l.fn.state).nodes + length (all_of (take l.brood-index l.self));
  chan : l.chan ≡ total l.fn.state.numbers + length (links_of (all_of (take l.brood-index l.self)));
  own : HasOwnRooms (all_of (take l.brood-index l.self)) (length (state_of l.fn.state).nodes) (total l.fn.state.numbers) l.state;
}
