use Rattle.std.proofs.Common.{arith}
use Rattle.kom_containers.proofs.Levels.{level_higher, below_limit}
use Rattle.kom_containers.proofs.sizes.heights.Goals as goal

pub one_level_higher-requires : goal.one_level_higher-requires
one_level_higher-requires c = below_limit c.loop.counter c.args.children.now c.loop.table (omega arith) c.loop.invariant

pub loop-preserved : goal.loop-preserved
loop-preserved c = level_higher c.loop.counter c.args.children.now c.loop.table c.in_ok-table.table c.loop.invariant c.in_ok-table.ensures
