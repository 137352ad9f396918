use Rattle.std.proofs.Common.{take}
use Rattle.kom_state.specs.Parts.{state_of}
use Rattle.kom_state.specs.Rooms.{IsSame, HasNoLess}
use Rattle.kom_births.specs.Sowing.{HasRows}
use Rattle.kom_births.proofs.rooms.reserve_rows.Given as goal

abbrev pub invariant-loop-k : goal.invariant-loop-k
invariant-loop-k l = record {
  same : IsSame (state_of l.fn.state) (state_of l.state);
  not_less : HasNoLess l.fn.state l.state;
  rows : HasRows (take l.k l.seeds) l.first l.state;
}
