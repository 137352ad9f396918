use Rattle.kom_walks.proofs.Firsts.{first_more}
use Rattle.std.proofs.Common.{◌∙◌}
use Rattle.kom_walks.proofs.places.first_of.Goals as goal

pub loop-item-preserved : goal.loop-item-preserved
loop-item-preserved g c = c.earlier-first.ensures ∙ first_more _ _ _ c.item-item.result _ _ c.loop-item-test.true c.item-item.is c.loop-item.invariant c.first.ensures
