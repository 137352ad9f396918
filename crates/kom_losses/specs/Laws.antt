-- The law of how many channels bodies have.
use Rattle.std.specs.Prelude.{ℕ, List, Option}
use Rattle.kom_lang.specs.Declarations.{Declarations}
use Rattle.kom_lang.specs.declared.body.Body.{Body}
use Rattle.kom_lang.specs.declared.body.Effect.{Effect}
use Rattle.kom_system.specs.WellFormed.{IsDeclared}
use Rattle.kom_record.specs.declared.plan.Plan.{Plan}
use Rattle.kom_record.specs.declared.item.Item.{Item}
use Rattle.kom_record.specs.Entries.{History}
use Rattle.kom_record.specs.Legal.{IsLegal}
use Rattle.kom_refine.specs.Points.{before_effects_of, with_effects, StandsAt}
use Rattle.kom_state.specs.Parts.{Parts, IsOf, state_of}
use Rattle.kom_losses.specs.Owned.{WiresAreCounted}

-- after some effects of a handling by c that goes on from a legal record
abbrev pub WiresAreCountedWithin : Type 0
WiresAreCountedWithin = (S : Declarations) (Z : Plan) (P : History) (w c took : ℕ) (item : Item) (body : Body) (effects before : List Effect) (to : Option ℕ) (places : List ℕ) (v : Parts)
    → IsDeclared S → IsLegal S Z P → StandsAt S (with_effects S (before_effects_of S P w c took body effects to places) c item before) (state_of v) → IsOf S v → WiresAreCounted v
