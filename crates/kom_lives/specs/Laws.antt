-- The laws of who is alive.
use Rattle.std.specs.Prelude.{◌≡◌, ℕ, true, List, ◌∷◌, Option, Some, Contains}
use Rattle.kom_base.specs.declared.numbers.Dir.{Dir}
use Rattle.kom_base.specs.declared.numbers.Half.{Half}
use Rattle.kom_lang.specs.Declarations.{Declarations}
use Rattle.kom_lang.specs.declared.body.Body.{Body}
use Rattle.kom_lang.specs.declared.body.Effect.{Effect}
use Rattle.kom_system.specs.WellFormed.{IsDeclared}
use Rattle.kom_record.specs.declared.plan.Plan.{Plan}
use Rattle.kom_record.specs.declared.item.Item.{Item}
use Rattle.kom_record.specs.declared.entry.Outcome.TheVariants as outcome
use Rattle.kom_record.specs.declared.entry.Entry.TheVariants.{Did}
use Rattle.kom_record.specs.Entries.{History, Act, acts}
use Rattle.kom_record.specs.Instances.{alive, ancestry_of, born, occupant}
use Rattle.kom_record.specs.Channels.{is_living, place}
use Rattle.kom_record.specs.Legal.{IsLegal}
use Rattle.kom_lives.specs.Living.{AreByLiving, AreOrderly, StaysAlive}

-- in a legal record each effect is by a component that was alive
abbrev pub EffectsAreByLiving : Type 0
EffectsAreByLiving = (S : Declarations) (Z : Plan) (P : History) → IsLegal S Z P → AreByLiving S (acts P)

-- a component stays alive through its own handling
abbrev pub HandlersLive : Type 0
HandlersLive = (S : Declarations) (Z : Plan) (P : History) (w c took : ℕ) (body : Body) (effects : List Effect) (to : Option ℕ) (places : List ℕ) (item : Item)
    → IsLegal S Z (Did w c took (outcome.Done body effects) to places ∷ P) → StaysAlive S (acts P) c item effects

-- the ancestors of a living component are alive
abbrev pub AncestorsLive : Type 0
AncestorsLive = (S : Declarations) (done : List Act) (c : ℕ) (q : ℕ × ℕ)
    → AreByLiving S done → alive S done c ≡ true → Contains (ancestry_of S (born S done) c) q → alive S done q.0 ≡ true

-- whoever is in a slot of a living component is alive
abbrev pub OccupantsLive : Type 0
OccupantsLive = (S : Declarations) (done : List Act) (c s q : ℕ) → AreByLiving S done → alive S done c ≡ true → occupant S done c s ≡ Some q → alive S done q ≡ true

-- a living channel is plugged at living components alone
abbrev pub EndsAreAtLiving : Type 0
EndsAreAtLiving = (S : Declarations) (Z : Plan) (P : History) (x : ℕ) (e : Dir) (h : Half)
    → IsDeclared S → IsLegal S Z P → is_living S (acts P) x ≡ true → place S (acts P) x e ≡ Some h → alive S (acts P) h.comp ≡ true

-- in a legal record of a well-formed system all effects are so
abbrev pub EffectsAreOrderly : Type 0
EffectsAreOrderly = (S : Declarations) (Z : Plan) (P : History) → IsDeclared S → IsLegal S Z P → AreOrderly S (acts P)

-- a living component is the occupant of the slot in which it was created: there is one at most in a slot
abbrev pub SlotsHoldOne : Type 0
SlotsHoldOne = (S : Declarations) (done : List Act) (q p s : ℕ) (rest : List (ℕ × ℕ))
    → AreOrderly S done → alive S done q ≡ true → ancestry_of S (born S done) q ≡ (p, s) ∷ rest → occupant S done p s ≡ Some q
