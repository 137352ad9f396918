use Rattle.kom_system.proofs.Levels.{level-push}
use Rattle.kom_system.proofs.heights.one_level_more.Goals as goal

pub loop-kind-preserved : goal.loop-kind-preserved
loop-kind-preserved c = level-push c.args.below.now c.as_slice-kind-items.result.now c.loop-kind.table c.push.new.self c.loop-kind.kind-index c.kind-item.result c.highest_child.result
    c.loop-kind-test.true c.kind-item.is c.highest_child.ensures.greatest c.loop-kind.invariant c.in_ok-push.ensures.ok
