-- What a handling makes of the state before its body is in force.
use Rattle.std.specs.Prelude.{◌≡◌, ◌≤◌, ℕ, List, ◌∷◌, length, Option, Some}
use Rattle.kom_lang.specs.Declarations.{Declarations}
use Rattle.kom_lang.specs.declared.body.Body.{Body}
use Rattle.kom_lang.specs.declared.body.Effect.{Effect}
use Rattle.kom_record.specs.declared.item.Item.{Item}
use Rattle.kom_record.specs.declared.entry.Outcome.TheVariants as outcome
use Rattle.kom_record.specs.declared.entry.Entry.{Entry}
use Rattle.kom_record.specs.declared.entry.Entry.TheVariants.{Did}
use Rattle.kom_record.specs.Entries.{acts, item_at}
use Rattle.kom_record.specs.Bodies.{catches, nearest}
use Rattle.kom_record.specs.Legal.{IsLegal}
use Rattle.kom_entering.specs.declared.lists.Coming.{Coming}
use Rattle.kom_entering.specs.declared.lists.Entering.{Entering}
use Rattle.kom_entering.specs.Lists.{IsEntering, numbers_into}
use Rattle.kom_refine.specs.Points.{StandsAt, before_effects_of, start_of, with_effects}
use Rattle.kom_refine.specs.States.{State}
use Rattle.kom_refine.specs.Steps.{ArePut, HaveCome, IsEnded}
use Rattle.kom_state.specs.Parts.{Parts, IsOf, control_spare, state_of}
use Rattle.kom_state.specs.Rooms.{KeepsRoom}
use Rattle.kom_births.specs.declared.seed.Seed.{Seed}
use Rattle.kom_nursery.specs.Nurseries.{broods_of}
use Rattle.kom_puts.specs.Puts.{FollowsFrom, TakesOneAtMost, following}
use Rattle.kom_doing.specs.Laws.{Ending}

-- the entry of the handling with these effects
abbrev pub entry_of : ℕ → List Effect → Ending → Entry
entry_of c es x = Did x.worker c x.took (outcome.Done x.body es) x.to x.places

-- The state stands for the record before the end of a handling of an item by c with this body and these effects.
-- The lists are those of its entry, the broods are what it creates, and `told` is told of a fault of c.
pub record StartsAt (S : Declarations) (c : ℕ) (item : Item) (told : Option (ℕ × ℕ)) (body : Body) (es : List Effect) (entering : Entering) (broods : List (List Seed)) (v : Parts) (x : Ending) : Type 0 where
  pub body_is : x.body ≡ body
  pub legal : IsLegal S x.plan (entry_of c es x ∷ x.before)
  pub taken : item_at x.before x.took ≡ Some item
  pub stands : StandsAt S (start_of x.before) (state_of v)
  pub numbers : IsOf S v
  pub entering_is : IsEntering S x.before (entry_of c es x) entering
  pub broods_are : broods ≡ broods_of S (acts x.before) c item es
  pub told_is : told ≡ nearest S x.before c

-- it is the end of some handling
pub record Starts (S : Declarations) (c : ℕ) (item : Item) (told : Option (ℕ × ℕ)) (body : Body) (es : List Effect) (entering : Entering) (broods : List (List Seed)) (v : Parts) : Type 0 where
  pub ending : Ending
  pub starts : StartsAt S c item told body es entering broods v ending

-- what follows from the item was put, and then these came into the channels
pub record IsBegun (c : ℕ) (item : Item) (body : Body) (comings : List Coming) (v w : Parts) : Type 0 where
  pub between : State
  pub puts : ArePut (following (state_of v) c body item) (state_of v) between
  pub follows : FollowsFrom c body item (state_of v) between
  pub come : HaveCome (numbers_into comings) between (state_of w)
  pub room : KeepsRoom v w
  pub controls : TakesOneAtMost v w
  pub unborn : (d : ℕ) → length (state_of v).nodes ≤ d → control_spare v d ≤ control_spare w d

-- all of it is done, and then the body was put in force
pub record IsEnacted (S : Declarations) (c : ℕ) (item : Item) (body : Body) (es : List Effect) (x : Ending) (w : Parts) : Type 0 where
  pub between : State
  pub acted : StandsAt S (with_effects S (before_effects_of S x.before x.worker c x.took x.body es x.to x.places) c item es) between
  pub ended : IsEnded (catches S) c (outcome.Done body es) between (state_of w)
  pub numbers : IsOf S w
