use Rattle.std.proofs.Common.{take}
use Rattle.kom_state.specs.Parts.{state_of}
use Rattle.kom_state.specs.Rooms.{IsSame, HasNoLess}
use Rattle.kom_coming.proofs.Rooms.{HasRooms}
use Rattle.kom_coming.proofs.room.make_room.Given as goal

abbrev pub invariant-loop-coming : goal.invariant-loop-coming
invariant-loop-coming l = record {
  same : IsSame (state_of l.fn.state) (state_of l.state);
  not_less : HasNoLess l.fn.state l.state;
  rooms : HasRooms (take l.coming-index l.fn.entering.comings) l.most l.state;
}
