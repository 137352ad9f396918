-- The laws by which bodies agree with the effects of a run.
use Rattle.std.specs.Prelude.{◌≡◌, ℕ, ◌+◌, false, ◌==◌, List, ◌∷◌, ◌++◌, length, slice_get, Option, Some}
use Rattle.std.specs.List.{filter_map}
use Rattle.kom_lang.specs.Bodies.{first_body}
use Rattle.kom_lang.specs.Declarations.{Declarations}
use Rattle.kom_lang.specs.declared.body.Body.{Body}
use Rattle.kom_lang.specs.declared.body.Effect.{Effect}
use Rattle.kom_system.specs.WellFormed.{IsDeclared}
use Rattle.kom_record.specs.declared.plan.Plan.{Plan}
use Rattle.kom_record.specs.declared.item.Item.{Item}
use Rattle.kom_record.specs.declared.entry.Outcome.TheVariants as outcome
use Rattle.kom_record.specs.declared.entry.Entry.TheVariants.{Did}
use Rattle.kom_record.specs.Entries.{History, acts, acts_for, item_at}
use Rattle.kom_record.specs.Instances.{Instance, born}
use Rattle.kom_record.specs.Bodies.{body_after_all, body_at, outcome_of}
use Rattle.kom_record.specs.Legal.{IsLegal}
use Rattle.kom_agree.specs.Agrees.{Agrees, AgreesBefore}
use Rattle.kom_agree.specs.Bodies.{BodyFits, EndsTake}
use Rattle.kom_agree.specs.Effects.{AreMet}

-- in a legal record of a well-formed system the body of each component that was created agrees with
-- the effects of the record
abbrev pub BodiesAgree : Type 0
BodiesAgree = (S : Declarations) (Z : Plan) (P : History) (c : ℕ) (b : Body) → IsDeclared S → IsLegal S Z P → body_at S P c ≡ Some b → Agrees S (acts P) c b

-- the numbers in it are in range
abbrev pub BodiesFit : Type 0
BodiesFit = (S : Declarations) (Z : Plan) (P : History) (c : ℕ) (b : Body) → IsDeclared S → IsLegal S Z P → body_at S P c ≡ Some b → BodyFits S b

-- each effect of a Did comes where its conditions hold
abbrev pub EffectsAreMet : Type 0
EffectsAreMet = (S : Declarations) (Z : Plan) (P : History) (w c took : ℕ) (body : Body) (effects : List Effect) (to : Option ℕ) (places : List ℕ) (item : Item)
    → IsDeclared S → IsLegal S Z (Did w c took (outcome.Done body effects) to places ∷ P) → item_at P took ≡ Some item → AreMet S (acts P) c body.kind item effects

-- the ends of its channels are plugged at ports that take them
abbrev pub EndsAreTaken : Type 0
EndsAreTaken = (S : Declarations) (Z : Plan) (P : History) (c : ℕ) (b : Body) → IsDeclared S → IsLegal S Z P → body_at S P c ≡ Some b → EndsTake S b

-- the body of c, which was created as i, by its outcomes in the record
abbrev pub body_by : Declarations → History → ℕ → Instance → Body
body_by S P c i = body_after_all (first_body S i.kind i.birth (1 + length i.ancestry)) (filter_map (outcome_of c) P)

-- within a handling by d: before each effect some body agrees for d, and after the effects `before` so does the body of each other component
pub record AgreeWithin (S : Declarations) (P : History) (d : ℕ) (item : Item) (effects : List Effect) : Type 0 where
  pub own : AgreesBefore S (acts P) d item effects
  pub others : (before rest : List Effect) (c : ℕ) (i : Instance) → effects ≡ before ++ rest → (d == c) ≡ false → slice_get (born S (acts_for d (Some item) before ++ acts P)) c ≡ Some i
      → Agrees S (acts_for d (Some item) before ++ acts P) c (body_by S P c i)

abbrev pub BodiesAgreeWithin : Type 0
BodiesAgreeWithin = (S : Declarations) (Z : Plan) (P : History) (w d took : ℕ) (body : Body) (effects : List Effect) (to : Option ℕ) (places : List ℕ) (item : Item)
    → IsDeclared S → IsLegal S Z (Did w d took (outcome.Done body effects) to places ∷ P) → item_at P took ≡ Some item → AgreeWithin S P d item effects
