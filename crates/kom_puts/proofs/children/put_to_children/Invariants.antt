use Rattle.std.proofs.Common.{ℕ, ◌≤◌, length, take}
use Rattle.kom_marks.specs.Marking.{IsMarked}
use Rattle.kom_refine.specs.Steps.{ArePut}
use Rattle.kom_state.specs.Parts.{control_spare, state_of}
use Rattle.kom_state.specs.Rooms.{KeepsQueues, KeepsRoom}
use Rattle.kom_puts.specs.Puts.{TakesOneAtMost, to_children_in}
use Rattle.kom_puts.specs.Signals.{item_of}
use Rattle.kom_puts.proofs.BySlots.{AreLeft}
use Rattle.kom_puts.proofs.children.put_to_children.Given as goal

abbrev pub invariant-loop-s : goal.invariant-loop-s
invariant-loop-s l = record {
  puts : ArePut (to_children_in (state_of l.fn.state) l.c (take l.s l.slots) (item_of l.signal)) (state_of l.fn.state) (state_of l.state);
  room : KeepsRoom l.fn.state l.state;
  left : AreLeft l.fn.state l.c l.s l.state;
  touched : TakesOneAtMost l.fn.state l.state;
  unborn : (d : ℕ) → length (state_of l.fn.state).nodes ≤ d → control_spare l.fn.state d ≤ control_spare l.state d;
  queues : KeepsQueues l.fn.state l.state;
  marks : IsMarked l.s l.fn.marks l.marks (state_of l.fn.state) (state_of l.state);
}
