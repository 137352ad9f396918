use Rattle.std.proofs.Common.{◌≡◌, ◌+◌, ℕ, length, take}
use Rattle.kom_base.specs.declared.numbers.Dir.{Dir}
use Rattle.kom_entering.specs.Lists.{numbers_into}
use Rattle.kom_marks.specs.Marking.{IsMarked}
use Rattle.kom_refine.specs.Steps.{HaveCome}
use Rattle.kom_state.specs.Parts.{state_of, queue_spare}
use Rattle.kom_state.specs.Rooms.{KeepsControls, KeepsRoom}
use Rattle.kom_coming.proofs.coming.come_in.Given as goal

abbrev pub invariant-loop-coming : goal.invariant-loop-coming
invariant-loop-coming l = record {
  step : HaveCome (numbers_into (take l.coming-index l.fn.comings)) (state_of l.fn.state) (state_of l.state);
  room : KeepsRoom l.fn.state l.state;
  controls : KeepsControls l.fn.state l.state;
  queues : (x : ℕ) (d : Dir) → queue_spare l.state x d + length (numbers_into (take l.coming-index l.fn.comings) x d) ≡ queue_spare l.fn.state x d;
  marked : IsMarked l.coming-index l.fn.marks l.marks (state_of l.fn.state) (state_of l.state);
}
