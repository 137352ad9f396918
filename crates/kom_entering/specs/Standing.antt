-- When the state of a run stands for a record.
use Rattle.kom_lang.specs.Declarations.{Declarations}
use Rattle.kom_system.specs.WellFormed.{IsDeclared}
use Rattle.kom_record.specs.declared.plan.Plan.{Plan}
use Rattle.kom_record.specs.Entries.{History}
use Rattle.kom_record.specs.Legal.{IsLegal}
use Rattle.kom_refine.specs.Points.{StandsAt, start_of}
use Rattle.kom_state.specs.Parts.{Parts, IsOf, state_of}

-- the state stands for the legal record P of the well-formed system, whose channels it numbers
pub record StandsAfter (S : Declarations) (P : History) (v : Parts) : Type 0 where
  pub plan : Plan
  pub declared : IsDeclared S
  pub legal : IsLegal S plan P
  pub state : StandsAt S (start_of P) (state_of v)
  pub numbers : IsOf S v
