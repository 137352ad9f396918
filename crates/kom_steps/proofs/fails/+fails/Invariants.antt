use Rattle.std.proofs.Common.{◌≡◌, ℕ, ◌<◌, ◌∷◌, [], get_or}
use Rattle.kom_lang.specs.declared.stmt.Stmt.{Stmt}
use Rattle.kom_steps.specs.Faults.{FailsFit}
use Rattle.kom_steps.proofs.fails.+fails.Given as goal

abbrev pub invariant-fails_fit-loop-statement : goal.invariant-fails_fit-loop-statement
invariant-fails_fit-loop-statement l = (k : ℕ) → k < l.statement-index → (y : Stmt) → get_or l.block k y ≡ y → FailsFit (y ∷ [])
