-- Who is in the slots of components where a state stands for a record.
use Rattle.std.specs.Prelude.{ℕ}
use Rattle.kom_lang.specs.Declarations.{Declarations}
use Rattle.kom_system.specs.WellFormed.{IsDeclared}
use Rattle.kom_record.specs.declared.plan.Plan.{Plan}
use Rattle.kom_record.specs.Entries.{History}
use Rattle.kom_record.specs.Legal.{IsLegal}
use Rattle.kom_refine.specs.Points.{StandsAt, start_of}
use Rattle.kom_state.specs.Parts.{Parts, state_of}
use Rattle.kom_changes.specs.Ends.{ChildrenAreInSlots}

-- whoever lives in a slot is in a slot of the body, and slots are few
abbrev pub ChildrenAreKept : Type 0
ChildrenAreKept = (S : Declarations) (Z : Plan) (R : History) (c : ℕ) (v : Parts) → IsDeclared S → IsLegal S Z R → StandsAt S (start_of R) (state_of v) → ChildrenAreInSlots c (state_of v)
