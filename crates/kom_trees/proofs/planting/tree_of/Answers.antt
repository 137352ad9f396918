use Rattle.kom_trees.proofs.Trees.{from_nothing}
use Rattle.kom_trees.proofs.planting.tree_of.Goals as goal

pub returns : goal.returns
returns c = from_nothing c.args.system.now.declarations c.args.number 16 c.args.kind c.args.at c.new-nodes.result.items c.plant.new.nodes.items c.new-nodes.ensures.items c.in_ok-plant.ensures
