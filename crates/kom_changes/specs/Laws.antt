-- Where the ends of channels are within a run.
use Rattle.std.specs.Prelude.{◌≡◌, ℕ, List, ◌∷◌, ◌++◌, Option, Some}
use Rattle.kom_lang.specs.Declarations.{Declarations}
use Rattle.kom_lang.specs.declared.body.Body.{Body}
use Rattle.kom_lang.specs.declared.body.Effect.{Effect}
use Rattle.kom_system.specs.WellFormed.{IsDeclared}
use Rattle.kom_record.specs.declared.plan.Plan.{Plan}
use Rattle.kom_record.specs.declared.item.Item.{Item}
use Rattle.kom_record.specs.declared.entry.Outcome.TheVariants as outcome
use Rattle.kom_record.specs.declared.entry.Entry.TheVariants.{Did}
use Rattle.kom_record.specs.Entries.{History, item_at}
use Rattle.kom_record.specs.Legal.{IsLegal}
use Rattle.kom_refine.specs.Points.{Point, acts_at, before_effects_of, with_effects, AreByCreated, StandsAt}
use Rattle.kom_refine.specs.States.{State}
use Rattle.kom_state.specs.Parts.{Parts, IsOf, state_of}
use Rattle.kom_changes.specs.Ends.{EndsAreMade, EndsAreOwn, ChildrenAreInSlots}

-- at each point of a run the ends of living channels are at components that were created
abbrev pub EndsAreAtCreated : Type 0
EndsAreAtCreated = (S : Declarations) (p : Point) (m : State) → StandsAt S p m → AreByCreated S (acts_at p) → EndsAreMade m

-- in a state of the system, the channels and the slots of others than c are as their bodies have them
pub record AreKept (c : ℕ) (v : Parts) : Type 0 where
  pub ends : EndsAreOwn c v
  pub children : ChildrenAreInSlots c (state_of v)

-- so it is after some effects of a handling by c
abbrev pub OthersAreKept : Type 0
OthersAreKept = (S : Declarations) (Z : Plan) (P : History) (w c took : ℕ) (item : Item) (body : Body) (effects before rest : List Effect) (to : Option ℕ) (places : List ℕ) (v : Parts)
    → IsDeclared S → IsLegal S Z (Did w c took (outcome.Done body effects) to places ∷ P) → item_at P took ≡ Some item → effects ≡ before ++ rest
    → StandsAt S (with_effects S (before_effects_of S P w c took body effects to places) c item before) (state_of v) → IsOf S v → AreKept c v
