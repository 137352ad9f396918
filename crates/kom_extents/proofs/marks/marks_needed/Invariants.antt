use Rattle.std.proofs.Common.{◌≡◌, ◌+◌, ◌*◌, ◌≤◌, take}
use Rattle.std.specs.List.{sum_by}
use Rattle.kom_state.specs.Parts.{state_of}
use Rattle.kom_extents.specs.Extents.{most_at}
use Rattle.kom_extents.proofs.marks.marks_needed.Given as goal

abbrev pub invariant-loop-k : goal.invariant-loop-k
invariant-loop-k l = record {
  most : l.most ≡ l.created + sum_by (most_at (state_of l.state) l.c l.created) (take l.k l.effects);
  few : l.most ≤ l.created + l.k * 5000000000;
}
