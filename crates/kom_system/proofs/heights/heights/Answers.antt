use Rattle.std.proofs.Common.{arith}
use Rattle.kom_system.proofs.Levels.{level-more, below-limit}
use Rattle.kom_system.proofs.heights.heights.Goals as goal

pub one_level_more-requires : goal.one_level_more-requires
one_level_more-requires c = below-limit c.loop.counter c.args.kinds.now c.loop.table (omega arith) c.loop.invariant

pub loop-preserved : goal.loop-preserved
loop-preserved c = level-more c.loop.counter c.args.kinds.now c.loop.table c.in_ok-table.table c.loop.invariant c.in_ok-table.ensures
