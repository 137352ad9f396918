-- What is known where the broods of a handling are made.
use Rattle.std.specs.Prelude.{◌≡◌, ◌≤◌, ℕ, List, ◌∷◌, length, Option, Some}
use Rattle.kom_lang.specs.Declarations.{Declarations}
use Rattle.kom_lang.specs.declared.body.Body.{Body}
use Rattle.kom_lang.specs.declared.body.Effect.{Effect}
use Rattle.kom_system.specs.WellFormed.{IsDeclared}
use Rattle.kom_record.specs.declared.plan.Plan.{Plan}
use Rattle.kom_record.specs.declared.item.Item.{Item}
use Rattle.kom_record.specs.declared.entry.Outcome.TheVariants as outcome
use Rattle.kom_record.specs.declared.entry.Entry.TheVariants.{Did}
use Rattle.kom_record.specs.Entries.{History, acts, item_at}
use Rattle.kom_record.specs.Instances.{born}
use Rattle.kom_record.specs.Bodies.{body_at}
use Rattle.kom_record.specs.Legal.{IsLegal}
use Rattle.kom_record.specs.Plans.{PlanFits}
use Rattle.kom_nursery.specs.Nurseries.{AreCreatable, IsNext}

-- c, whose body is b before the handling, is of the body's depth and may create what the effects create; they are
-- few, and there are numbers for all of it
pub record IsPrepared (S : Declarations) (P : History) (c : ℕ) (b : Body) (effects : List Effect) : Type 0 where
  pub creatable : AreCreatable S b.depth effects
  pub next : IsNext S (acts P) c b.depth (length (born S (acts P)))
  pub some_depth : 1 ≤ b.depth
  pub few : length effects ≤ 32
  pub number : length (born S (acts P)) ≤ 3200001000

abbrev pub HandlingsArePrepared : Type 0
HandlingsArePrepared = (S : Declarations) (Z : Plan) (P : History) (w c took : ℕ) (item : Item) (body b : Body) (effects : List Effect) (to : Option ℕ) (places : List ℕ)
    → IsDeclared S → PlanFits S Z → IsLegal S Z (Did w c took (outcome.Done body effects) to places ∷ P) → item_at P took ≡ Some item → body_at S P c ≡ Some b → IsPrepared S P c b effects
