use Rattle.std.proofs.Common.{◌+◌, ◌*◌, take}
use Rattle.std.specs.List.{enumerate_from}
use Rattle.kom_trees.specs.Nodes.{HasTrees}
use Rattle.kom_trees.proofs.planting.+planting.Given as goal

abbrev pub decreases-plant : goal.decreases-plant
decreases-plant l = 3 * l.levels

abbrev pub decreases-plant_child : goal.decreases-plant_child
decreases-plant_child l = 3 * l.levels + 1

abbrev pub decreases-plant_children : goal.decreases-plant_children
decreases-plant_children l = 3 * l.levels + 2

abbrev pub invariant-plant_children-loop-s : goal.invariant-plant_children-loop-s
invariant-plant_children-loop-s l = HasTrees l.system.declarations l.number l.levels l.parent (take l.s (enumerate_from 0 l.slots)) l.initial.nodes.items l.nodes.items
