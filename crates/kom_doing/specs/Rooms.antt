-- The room for all the effects that are still to come.
use Rattle.std.specs.Prelude.{◌≡◌, ◌≤◌, ◌<◌, ◌+◌, ◌^◌, ℕ, true, List, [], ◌∷◌, length, Option}
use Rattle.kom_lang.specs.Declarations.{Declarations}
use Rattle.kom_lang.specs.declared.body.Effect.{Effect}
use Rattle.kom_system.specs.WellFormed.{IsDeclared}
use Rattle.kom_record.specs.declared.item.Item.{Item}
use Rattle.kom_numbers.specs.Numbering.{total}
use Rattle.kom_state.specs.Facts.{HoldsTogether}
use Rattle.kom_state.specs.Parts.{Parts, state_of}
use Rattle.kom_births.specs.declared.seed.Seed.{Seed}
use Rattle.kom_births.specs.Seeds.{links_of}
use Rattle.kom_births.specs.Sowing.{HasRooms}
use Rattle.kom_nursery.specs.Nurseries.{all_of}
use Rattle.kom_nursery.specs.Tops.{TopsHaveRoom}
use Rattle.kom_puts.specs.Puts.{HasRoomFor, is_above, put_in}
use Rattle.kom_doing.specs.Effects.{IsDone, LeavesRoomBy}
use Rattle.kom_doing.specs.Laws.{Ending, IsAmid}

-- there is room for so many items of each component to which one of these effects puts one as the state is
abbrev pub PutsHaveRoom : ℕ → ℕ → Item → Option (ℕ × ℕ) → List Effect → Parts → Type 0
PutsHaveRoom n c item told [] v = Unit {0}
PutsHaveRoom n c item told (e ∷ es) v = HasRoomFor n (put_in (state_of v) c item told e) v × PutsHaveRoom n c item told es v

-- There is room for what these effects of a handling of an item by c create, also for the marks, whose numbers
-- have a bound, and as many control items as there are effects for each component that may get one.
pub record HasRoomLeft (c : ℕ) (item : Item) (told : Option (ℕ × ℕ)) (es : List Effect) (broods : List (List Seed)) (bound : ℕ) (v : Parts) : Type 0 where
  pub broods_fit : HasRooms (all_of broods) (length (state_of v).nodes) (total v.numbers) v
  pub few : length (state_of v).nodes + length (all_of broods) ≤ 4000000000
  pub few_channels : total v.numbers + length (links_of (all_of broods)) < 2 ^ 32
  pub marks : length (state_of v).nodes + length (all_of broods) ≤ bound
  pub puts : PutsHaveRoom (length es) c item told es v
  pub tops : TopsHaveRoom (length es) broods (length (state_of v).nodes) v

-- room for the others, and whoever is told of a fault of c is still above
pub record LeavesEnough (c : ℕ) (item : Item) (told : Option (ℕ × ℕ)) (es : List Effect) (broods : List (List Seed)) (bound : ℕ) (v : Parts) : Type 0 where
  pub room : HasRoomLeft c item told es broods bound v
  pub above : is_above (state_of v) c told ≡ true

-- one effect leaves room for those after it
abbrev pub RoomIsLeft : Type 0
RoomIsLeft = (S : Declarations) (c : ℕ) (item : Item) (told : Option (ℕ × ℕ)) (before rest : List Effect) (e : Effect) (x : Ending) (broods left : List (List Seed)) (bound : ℕ) (v w : Parts)
    → IsDeclared S → HoldsTogether v → HoldsTogether w → IsAmid S c item told before (e ∷ rest) x broods v → is_above (state_of v) c told ≡ true → IsDone S c item told e broods left v w → LeavesRoomBy c e broods v w
    → HasRoomLeft c item told (e ∷ rest) broods bound v → LeavesEnough c item told rest left bound w
