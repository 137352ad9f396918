use Rattle.kom_lang.specs.Declarations.{Declarations}
use Rattle.kom_record.specs.declared.plan.Plan.{Plan}
use Rattle.kom_record.specs.Legal.{IsLegal}
use Rattle.kom_trace.specs.Counting.{HasCounted, first_entries}
use Rattle.kom_trace.proofs.counts.count_all.Given as goal

abbrev pub invariant-loop-i : goal.invariant-loop-i
invariant-loop-i l = (S : Declarations) (Z : Plan) → ∥ IsLegal S Z l.kept.history ∥₁ → HasCounted S l.counts (first_entries l.i l.kept.history)
