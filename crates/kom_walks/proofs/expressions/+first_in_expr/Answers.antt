use Rattle.std.proofs.Common.{◌∙◌}
use Rattle.kom_walks.proofs.Exprs.{first_in_neg, first_in_not, first_in_pair}
use Rattle.kom_walks.proofs.expressions.+first_in_expr.Goals as goal

pub returns-in-Neg : goal.returns-in-Neg
returns-in-Neg g t c = first_in_neg _ _ _ c.in-Neg.inner _ c.in-Neg.is (rw c.get.ensures at c.first_in_expr.ensures)

pub returns-in-Not : goal.returns-in-Not
returns-in-Not g t c = first_in_not _ _ _ c.in-Not.inner _ c.in-Not.is (rw c.get-in-Not.ensures at c.first_in_expr-in-Not.ensures)

pub returns-in-Pair : goal.returns-in-Pair
returns-in-Pair g t c = c.earlier.ensures ∙ first_in_pair _ _ _ c.in-Pair.left c.in-Pair.right c.in-Pair.op _ _ c.in-Pair.is (rw c.get-in-Pair.ensures at c.first_in_expr-before.ensures) (rw c.get-in-Pair-2.ensures at c.first_in_expr-in-Pair.ensures)
