use Rattle.std.proofs.Common.{◌≡◌, ◌+◌, length, take}
use Rattle.kom_state.specs.Parts.{state_of}
use Rattle.kom_state.specs.Rooms.{IsSame, HasNoLess}
use Rattle.kom_nursery.specs.Nurseries.{all_of}
use Rattle.kom_nursery.specs.Tops.{TopsHaveRoom}
use Rattle.kom_nursery.proofs.nursery.Nursery.reserve_tops.Given as goal

abbrev pub invariant-loop-brood : goal.invariant-loop-brood
invariant-loop-brood l = record {
  same : IsSame (state_of l.fn.state) (state_of l.state);
  not_less : HasNoLess l.fn.state l.state;
  first : l.first ≡ length (state_of l.fn.state).nodes + length (all_of (take l.brood-index l.self));
  tops : TopsHaveRoom l.n (take l.brood-index l.self) (length (state_of l.fn.state).nodes) l.state;
}
