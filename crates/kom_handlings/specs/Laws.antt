-- What holds at each effect of a handling, and of a body.
use Rattle.std.specs.Prelude.{◌≡◌, ℕ, ◌+◌, true, List, ◌∷◌, ◌++◌, length, slice_get, Option, Some}
use Rattle.kom_lang.specs.Declarations.{Declarations}
use Rattle.kom_lang.specs.declared.body.Body.{Body}
use Rattle.kom_lang.specs.declared.body.Effect.{Effect}
use Rattle.kom_system.specs.WellFormed.{IsDeclared}
use Rattle.kom_record.specs.declared.plan.Plan.{Plan}
use Rattle.kom_record.specs.declared.item.Item.{Item}
use Rattle.kom_record.specs.declared.entry.Outcome.TheVariants as outcome
use Rattle.kom_record.specs.declared.entry.Entry.TheVariants.{Did}
use Rattle.kom_record.specs.Entries.{Act, History, acts, acts_for, item_at}
use Rattle.kom_record.specs.Instances.{Instance, alive, ancestry_of, born}
use Rattle.kom_record.specs.Bodies.{body_at}
use Rattle.kom_record.specs.Legal.{IsLegal}
use Rattle.kom_agree.specs.Effects.{IsMet}

-- an effect of c, whose type is `kind`, in its handling of the item, comes after these acts
pub record ComesInTurn (S : Declarations) (done : List Act) (c kind : ℕ) (item : Item) (e : Effect) : Type 0 where
  pub lives : alive S done c ≡ true
  pub met : IsMet S done c kind item e

-- `before` are the effects of the handling before it
abbrev pub EffectsComeInTurn : Type 0
EffectsComeInTurn = (S : Declarations) (Z : Plan) (P : History) (w c took : ℕ) (item : Item) (body : Body) (effects before : List Effect) (e : Effect) (rest : List Effect) (to : Option ℕ) (places : List ℕ)
    → IsDeclared S → IsLegal S Z (Did w c took (outcome.Done body effects) to places ∷ P) → item_at P took ≡ Some item → effects ≡ before ++ e ∷ rest
    → ComesInTurn S (acts_for c (Some item) before ++ acts P) c body.kind item e

-- the body is of the type of the instance, and as deep as it
pub record KnowsItsPlace (S : Declarations) (P : History) (c : ℕ) (b : Body) : Type 0 where
  pub instance : Instance
  pub at : slice_get (born S (acts P)) c ≡ Some instance
  pub kind : b.kind ≡ instance.kind
  pub depth : b.depth ≡ 1 + length (ancestry_of S (born S (acts P)) c)

abbrev pub BodiesKnowTheirPlace : Type 0
BodiesKnowTheirPlace = (S : Declarations) (Z : Plan) (P : History) (c : ℕ) (b : Body) → IsDeclared S → IsLegal S Z P → body_at S P c ≡ Some b → KnowsItsPlace S P c b
