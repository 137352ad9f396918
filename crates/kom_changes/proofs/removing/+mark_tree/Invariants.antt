use Rattle.std.proofs.Common.{◌≡◌, ℕ, ◌+◌, ◌≤◌, ◌||◌, length, ◌-◌}
use Rattle.kom_comps.specs.Members.{has}
use Rattle.kom_state.specs.Parts.{state_of}
use Rattle.kom_changes.specs.Below.{how_many, lives_in_first}
use Rattle.kom_changes.proofs.removing.+mark_tree.Given as goal

abbrev pub decreases-mark_tree : goal.decreases-mark_tree
decreases-mark_tree l = length (state_of l.state.now).nodes - l.d

abbrev pub invariant-loop-s : goal.invariant-loop-s
invariant-loop-s l = record {
  each : (e : ℕ) → has l.marks e ≡ (lives_in_first (state_of l.state) l.d l.s e || has l.fn.marks e);
  few : length l.marks.list ≤ length l.fn.marks.list + how_many (state_of l.state) (lives_in_first (state_of l.state) l.d l.s);
  bound : l.marks.bound ≡ l.fn.marks.bound;
}
