use Rattle.std.proofs.Common.{◌≡◌, ◌-◌, true, length}
use Rattle.kom_tree.specs.Forest.{is_alive}
use Rattle.kom_state.specs.Removals.{lies_in}
use Rattle.kom_state.proofs.cutting.leaf.Given as goal

abbrev pub invariant-loop-d : goal.invariant-loop-d
invariant-loop-d l = record {
  living : is_alive l.tree.instances l.last ≡ true;
  within : lies_in l.tree.instances l.fn.c l.fn.slot l.last ≡ true;
}

abbrev pub decreases-loop-d : goal.decreases-loop-d
decreases-loop-d l = length l.tree.instances - l.last
