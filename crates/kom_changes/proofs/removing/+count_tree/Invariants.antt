use Rattle.std.proofs.Common.{◌≡◌, length, ◌-◌}
use Rattle.kom_state.specs.Parts.{state_of}
use Rattle.kom_changes.specs.Below.{how_many, lives_in_first}
use Rattle.kom_changes.proofs.removing.+count_tree.Given as goal

abbrev pub decreases-count_tree : goal.decreases-count_tree
decreases-count_tree l = length (state_of l.state.now).nodes - l.d

abbrev pub invariant-loop-s : goal.invariant-loop-s
invariant-loop-s l = l.count ≡ how_many (state_of l.state) (lives_in_first (state_of l.state) l.d l.s)
