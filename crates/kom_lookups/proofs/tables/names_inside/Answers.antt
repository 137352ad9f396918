use Rattle.kom_lookups.proofs.Together.{all_more, all_have}
use Rattle.kom_lookups.proofs.tables.names_inside.Goals as goal

pub loop-part-preserved : goal.loop-part-preserved
loop-part-preserved c = all_more c.loop-part.inside _ c.args.parts.now c.loop-part.part-index c.in_ok-of.field-0 c.part-item.result c.loop-part-test.true c.part-item.is c.loop-part.invariant c.in_ok-of.ensures c.in_ok-push.ensures.ok

pub returns : goal.returns
returns c = all_have c.loop-part.inside c.args.parts.now c.loop-part.part-index c.loop-part-test.false c.loop-part.invariant
