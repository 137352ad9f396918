use Rattle.std.proofs.Common.{length, take}
use Rattle.kom_state.specs.Parts.{state_of}
use Rattle.kom_state.specs.Rooms.{HasNoLess, IsSame}
use Rattle.kom_moves.specs.Bringing.{HaveRoom}
use Rattle.kom_moves.proofs.brings.make_ways.Given as goal

abbrev pub invariant-loop-release : goal.invariant-loop-release
invariant-loop-release l = record {
  same : IsSame (state_of l.fn.state) (state_of l.state);
  not_less : HasNoLess l.fn.state l.state;
  room : HaveRoom (length l.released) l.state (take l.release-index l.released);
}
