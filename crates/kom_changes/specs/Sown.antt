-- What a Create makes of the state.
use Rattle.std.specs.Prelude.{◌≡◌, ◌≤◌, ◌<◌, ◌^◌, ◌+◌, ℕ, true, List, ◌∷◌, length, None}
use Rattle.kom_lang.specs.Declarations.{Declarations}
use Rattle.kom_lang.specs.declared.body.Birth.{Birth}
use Rattle.kom_lang.specs.declared.body.Effect.{Effect}
use Rattle.kom_lang.specs.declared.body.Effect.TheVariants as effect
use Rattle.kom_record.specs.declared.item.Item.{Item}
use Rattle.kom_record.specs.Instances.{alive, occupant}
use Rattle.kom_numbers.specs.Numbering.{total}
use Rattle.kom_refine.specs.Points.{Point, acts_at, act_of, AreByCreated, StandsAt}
use Rattle.kom_refine.specs.Steps.{IsEffect}
use Rattle.kom_state.specs.Parts.{Parts, IsOf, state_of}
use Rattle.kom_births.specs.declared.seed.Seed.{Seed}
use Rattle.kom_births.specs.Seeds.{links_of}
use Rattle.kom_births.specs.Sowing.{AreSown, MaySow, HasRooms, TakesRooms}
use Rattle.kom_nursery.specs.Nurseries.{broods_of}

-- the first brood may be planted next, and there is room for it, also for the marks
pub record MaySowFirst (S : Declarations) (broods : List (List Seed)) (bound : ℕ) (v : Parts) : Type 0 where
  pub brood : List Seed
  pub rest : List (List Seed)
  pub first_is : broods ≡ brood ∷ rest
  pub may : MaySow S (length (state_of v).nodes) (total v.numbers) brood (state_of v)
  pub few : length (state_of v).nodes + length brood ≤ 4000000000
  pub few_channels : total v.numbers + length (links_of brood) < 2 ^ 32
  pub room : HasRooms brood (length (state_of v).nodes) (total v.numbers) v
  pub marks : length (state_of v).nodes + length brood ≤ bound

-- the first brood is planted, and the others are left
pub record IsFirstSown (S : Declarations) (brood : List Seed) (rest left : List (List Seed)) (v w : Parts) : Type 0 where
  pub left_is : left ≡ rest
  pub sown : AreSown S (length (state_of v).nodes) (total v.numbers) brood (state_of v) (state_of w)
  pub room : TakesRooms brood (length (state_of v).nodes) v w

-- the step of a Create, and the broods of the effects after it
pub record IsCreate (S : Declarations) (p : Point) (c : ℕ) (item : Item) (e : Effect) (es : List Effect) (left : List (List Seed)) (v w : Parts) : Type 0 where
  pub step : IsEffect S p c item e (state_of v) (state_of w)
  pub left_is : left ≡ broods_of S (act_of c item e ∷ acts_at p) c item es
  pub numbers : IsOf S w

-- so it is at every point of a run for which the old state stands, where c lives and the slot is empty
abbrev pub Creates : Declarations → List (List Seed) → List (List Seed) → Parts → Parts → Type 0
Creates S broods left v w = (p : Point) (c : ℕ) (item : Item) (slot kind : ℕ) (birth : Birth) (es : List Effect) → IsOf S v → StandsAt S p (state_of v) → AreByCreated S (acts_at p)
    → alive S (acts_at p) c ≡ true → occupant S (acts_at p) c slot ≡ None → broods ≡ broods_of S (acts_at p) c item (effect.Create slot kind birth ∷ es)
    → IsCreate S p c item (effect.Create slot kind birth) es left v w
