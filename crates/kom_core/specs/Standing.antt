-- What holds of the plan and the record of every kept run.
use Rattle.std.proofs.Math.Logic.{∥∥₁_map}
use Rattle.kom_record.specs.Legal.{IsLegal}
use Rattle.kom_record.specs.Plans.{PlanFits}
use Rattle.kom_turns.specs.declared.run.Run.{Run}
use Rattle.kom_turns.specs.Runs.{IsRun, history_of, system_of}

-- the plan fits the system
pub plan_fits : (v : Run) → IsRun v → ∥ PlanFits (system_of v) v.env.plan ∥₁
plan_fits v r = ∥∥₁_map r (λ s. s.fits)

-- the record is legal for both
pub is_legal : (v : Run) → IsRun v → ∥ IsLegal (system_of v) v.env.plan (history_of v) ∥₁
is_legal v r = ∥∥₁_map r (λ s. s.legal)
