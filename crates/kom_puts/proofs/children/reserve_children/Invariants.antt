use Rattle.kom_state.specs.Parts.{state_of}
use Rattle.kom_state.specs.Rooms.{HasNoLess, IsSame}
use Rattle.kom_puts.proofs.BySlots.{HaveRoomBelow}
use Rattle.kom_puts.proofs.children.reserve_children.Given as goal

abbrev pub invariant-loop-s : goal.invariant-loop-s
invariant-loop-s l = record {
  same : IsSame (state_of l.fn.state) (state_of l.state);
  not_less : HasNoLess l.fn.state l.state;
  rooms : HaveRoomBelow l.n (state_of l.fn.state) l.c l.s l.state;
}
