use Rattle.std.proofs.Common.{◌≡◌, take}
use Rattle.kom_lang.proofs.stmt.+copy.Given as goal

abbrev pub invariant-copy_block-loop-statement : goal.invariant-copy_block-loop-statement
invariant-copy_block-loop-statement l = l.copy ≡ take l.statement-index l.statement-items
