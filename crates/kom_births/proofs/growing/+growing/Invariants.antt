use Rattle.std.proofs.Common.{◌+◌, ◌*◌, take}
use Rattle.std.specs.List.{enumerate_from}
use Rattle.kom_births.specs.Sprouts.{HasTrees}
use Rattle.kom_births.proofs.growing.+growing.Given as goal

abbrev pub decreases-grow : goal.decreases-grow
decreases-grow l = 3 * l.levels

abbrev pub decreases-grow_child : goal.decreases-grow_child
decreases-grow_child l = 3 * l.levels + 1

abbrev pub decreases-grow_children : goal.decreases-grow_children
decreases-grow_children l = 3 * l.levels + 2

abbrev pub invariant-grow_children-loop-s : goal.invariant-grow_children-loop-s
invariant-grow_children-loop-s l = HasTrees l.system.declarations l.number l.levels l.parent l.depth (take l.s (enumerate_from 0 l.slots)) l.initial.sprouts.items l.sprouts.items
