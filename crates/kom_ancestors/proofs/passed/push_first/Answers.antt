use Rattle.kom_ancestors.proofs.Passing.{push_few, push_begins}
use Rattle.kom_ancestors.proofs.passed.push_first.Goals as goal

pub loop-name-init : goal.loop-name-init
loop-name-init c = push_begins c.args.list.now c.requires

pub loop-name-preserved : goal.loop-name-preserved
loop-name-preserved c =
    push_few c.args.list.now c.loop-name.list c.push_if_few.new.list c.args.more.now c.loop-name.name-index c.name-item.result c.loop-name-test.true c.name-item.is c.loop-name.invariant c.in_ok-push_if_few.ensures
