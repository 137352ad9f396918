use Rattle.kom_walks.proofs.Firsts.{first_more}
use Rattle.std.proofs.Common.{◌∙◌}
use Rattle.kom_walks.proofs.expressions.first_in_list.Goals as goal

pub loop-expr-preserved : goal.loop-expr-preserved
loop-expr-preserved g c = c.earlier-first.ensures ∙ first_more _ _ _ c.expr-item.result _ _ c.loop-expr-test.true c.expr-item.is c.loop-expr.invariant c.first_in_expr.ensures
