use Rattle.kom_containers.specs.Nested.{total_of}
use Rattle.kom_containers.proofs.Levels.{level_larger, no_more}
use Rattle.kom_containers.proofs.sizes.totals.Goals as goal

pub one_level_larger-requires-clause-most : goal.one_level_larger-requires-clause-most
one_level_larger-requires-clause-most c = no_more c.loop.table (total_of c.loop.counter c.args.children.now c.args.own.now) c.loop.invariant

pub loop-preserved : goal.loop-preserved
loop-preserved c = level_larger c.loop.counter c.args.children.now c.args.own.now c.loop.table c.in_ok-table.table c.loop.invariant c.in_ok-table.ensures.each
