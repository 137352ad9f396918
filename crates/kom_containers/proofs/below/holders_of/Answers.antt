use Rattle.kom_containers.proofs.Levels.{level_further}
use Rattle.kom_containers.proofs.below.holders_of.Goals as goal

pub loop-preserved : goal.loop-preserved
loop-preserved c = level_further c.loop.counter c.args.children.now c.args.number c.loop.table c.in_ok-table.table c.loop.invariant c.in_ok-table.ensures
