-- What a proof unfolds so that the rules run on closed terms.
use Rattle.kom_system.specs.declared.parts.StmtPart.{out-StmtPart}

unfoldable pub computing : Unit {0}
unfolding out-StmtPart denote.Hole.Carrier.out denote.Hole.Carrier.shown denote.Hole.Carrier.hidden Rattle.kom_system.specs.declared.parts.StmtPart.TheBlock.shown-the_row-StmtPart-0 Rattle.kom_system.specs.declared.parts.StmtPart.TheBlock.hidden-the_row-StmtPart-0 Rattle.kom_system.specs.declared.parts.ExprPart.TheBlock.hidden-the_row-ExprPart-0
computing = tt
