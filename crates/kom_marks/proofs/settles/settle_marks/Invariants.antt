use Rattle.std.proofs.Common.{◌+◌, ◌≤◌, length}
use Rattle.std.specs.Prelude.{vec_capacity}
use Rattle.kom_state.specs.Parts.{state_of}
use Rattle.kom_marks.proofs.Settling.{IsHalfSettled}
use Rattle.kom_marks.proofs.settles.settle_marks.Given as goal

abbrev pub invariant-loop-c : goal.invariant-loop-c
invariant-loop-c l = record {
  half : IsHalfSettled (state_of l.state) l.busy l.closed l.fn.runnable l.runnable l.fn.marks l.marks l.woken.items;
  room : length l.marks.list + length l.woken.items ≤ vec_capacity l.woken;
}

abbrev pub decreases-loop-c : goal.decreases-loop-c
decreases-loop-c l = length l.marks.list
