use Rattle.std.proofs.Common.{◌≡◌, length, ◌-◌}
use Rattle.kom_state.specs.Parts.{state_of}
use Rattle.kom_changes.specs.Below.{lives_in_first}
use Rattle.kom_losses.specs.Owned.{owned, waiting_of}
use Rattle.kom_losses.proofs.tree.+waiting_tree.Given as goal

abbrev pub decreases-waiting_tree : goal.decreases-waiting_tree
decreases-waiting_tree l = length (state_of l.state.now).nodes - l.d

abbrev pub invariant-loop-s : goal.invariant-loop-s
invariant-loop-s l = l.count ≡ waiting_of l.state (owned l.state (lives_in_first (state_of l.state) l.d l.s))
