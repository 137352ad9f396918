-- What is known where an effect of a handling comes.
use Rattle.std.specs.Prelude.{◌≡◌, ◌≤◌, ◌<◌, ◌+◌, ◌^◌, ℕ, true, List, [], ◌∷◌, ◌++◌, length, Option, Some}
use Rattle.kom_lang.specs.Declarations.{Declarations}
use Rattle.kom_lang.specs.declared.body.Body.{Body}
use Rattle.kom_lang.specs.declared.body.Effect.{Effect}
use Rattle.kom_system.specs.WellFormed.{IsDeclared}
use Rattle.kom_record.specs.declared.plan.Plan.{Plan}
use Rattle.kom_record.specs.declared.item.Item.{Item}
use Rattle.kom_record.specs.declared.entry.Outcome.TheVariants as outcome
use Rattle.kom_record.specs.declared.entry.Entry.TheVariants.{Did}
use Rattle.kom_record.specs.Entries.{History, acts, acts_for, item_at}
use Rattle.kom_record.specs.Bodies.{nearest}
use Rattle.kom_record.specs.Legal.{IsLegal}
use Rattle.kom_numbers.specs.Numbering.{total}
use Rattle.kom_refine.specs.Points.{before_effects_of, with_effects, StandsAt}
use Rattle.kom_state.specs.Facts.{HoldsTogether}
use Rattle.kom_state.specs.Parts.{Parts, IsOf, state_of}
use Rattle.kom_births.specs.declared.seed.Seed.{Seed}
use Rattle.kom_births.specs.Seeds.{links_of}
use Rattle.kom_births.specs.Sowing.{HasRooms}
use Rattle.kom_nursery.specs.Nurseries.{all_of, broods_of}
use Rattle.kom_puts.specs.Puts.{HasRoomFor, put_in}
use Rattle.kom_changes.specs.Ends.{EndsAreMade}
use Rattle.kom_doing.specs.Effects.{IsDoable, IsDone}

-- the end of a handling: of which plan and record, by which worker, of the job of which Took, with which body,
-- who is told, and where answers reach nobody
pub record Ending : Type 0 where
  pub plan : Plan
  pub before : History
  pub worker : ℕ
  pub took : ℕ
  pub body : Body
  pub to : Option ℕ
  pub places : List ℕ

-- The state stands after the effects `before` of a handling of an item by c, of which `rest` are still to come;
-- the broods are those of the rest, and `told` is told of a fault of c.
pub record IsAmid (S : Declarations) (c : ℕ) (item : Item) (told : Option (ℕ × ℕ)) (before rest : List Effect) (x : Ending) (broods : List (List Seed)) (v : Parts) : Type 0 where
  pub legal : IsLegal S x.plan (Did x.worker c x.took (outcome.Done x.body (before ++ rest)) x.to x.places ∷ x.before)
  pub taken : item_at x.before x.took ≡ Some item
  pub stands : StandsAt S (with_effects S (before_effects_of S x.before x.worker c x.took x.body (before ++ rest) x.to x.places) c item before) (state_of v)
  pub numbers : IsOf S v
  pub broods_are : broods ≡ broods_of S (acts_for c (Some item) before ++ acts x.before) c item rest
  pub told_is : told ≡ nearest S x.before c

-- there is room for the broods, also for their marks, and for what the effect puts
pub record HasRoomToDo (c : ℕ) (item : Item) (told : Option (ℕ × ℕ)) (e : Effect) (broods : List (List Seed)) (bound : ℕ) (v : Parts) : Type 0 where
  pub broods_fit : HasRooms (all_of broods) (length (state_of v).nodes) (total v.numbers) v
  pub few : length (state_of v).nodes + length (all_of broods) ≤ 4000000000
  pub few_channels : total v.numbers + length (links_of (all_of broods)) < 2 ^ 32
  pub marks : length (state_of v).nodes + length (all_of broods) ≤ bound
  pub controls : HasRoomFor 1 (put_in (state_of v) c item told e) v

-- the next effect may be done, at a living component, and the ends of channels are at components that were created
pub record MayGoOn (S : Declarations) (c : ℕ) (item : Item) (told : Option (ℕ × ℕ)) (e : Effect) (broods : List (List Seed)) (bound : ℕ) (v : Parts) : Type 0 where
  pub living : (state_of v).living c ≡ true
  pub ends : EndsAreMade (state_of v)
  pub may : IsDoable S c item told e broods bound v

abbrev pub EffectsMayBeDone : Type 0
EffectsMayBeDone = (S : Declarations) (c : ℕ) (item : Item) (told : Option (ℕ × ℕ)) (before rest : List Effect) (e : Effect) (x : Ending) (broods : List (List Seed)) (bound : ℕ) (v : Parts)
    → IsDeclared S → HoldsTogether v → IsAmid S c item told before (e ∷ rest) x broods v → HasRoomToDo c item told e broods bound v → MayGoOn S c item told e broods bound v

-- and once it is done, the state stands after it
abbrev pub EffectsGoOn : Type 0
EffectsGoOn = (S : Declarations) (c : ℕ) (item : Item) (told : Option (ℕ × ℕ)) (before rest : List Effect) (e : Effect) (x : Ending) (broods left : List (List Seed)) (v w : Parts)
    → IsDeclared S → IsAmid S c item told before (e ∷ rest) x broods v → IsDone S c item told e broods left v w → IsAmid S c item told (before ++ e ∷ []) rest x left w
