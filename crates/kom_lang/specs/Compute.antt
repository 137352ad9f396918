-- What a proof unfolds so that the steps run on closed terms.
use Rattle.kom_lang.specs.declared.stmt.Stmt.{out-Stmt}

unfoldable pub computing : Unit {0}
unfolding out-Stmt denote.Hole.Carrier.out denote.Hole.Carrier.shown denote.Hole.Carrier.hidden Rattle.kom_lang.specs.declared.stmt.Stmt.TheBlock.shown-the_row-Stmt-0 Rattle.kom_lang.specs.declared.stmt.Stmt.TheBlock.hidden-the_row-Stmt-0 Rattle.kom_lang.specs.declared.expr.Expr.TheBlock.hidden-the_row-Expr-0
computing = tt
