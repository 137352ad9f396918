-- What one effect of a handling needs, and what it leaves.
use Rattle.std.specs.Prelude.{◌≡◌, ◌≤◌, ℕ, true, List, [], ◌∷◌, length, Option, Some, None, is_some}
use Rattle.std.specs.Option.{option_map}
use Rattle.kom_base.specs.declared.numbers.Half.{Half}
use Rattle.kom_base.specs.declared.numbers.Side.TheVariants.{Outside, Inside}
use Rattle.kom_lang.specs.Declarations.{Declarations}
use Rattle.kom_lang.specs.declared.body.Effect.{Effect}
use Rattle.kom_lang.specs.declared.body.Effect.TheVariants as effect
use Rattle.kom_lang.specs.declared.kind.Place.{Place}
use Rattle.kom_record.specs.declared.item.Item.{Item}
use Rattle.kom_record.specs.Instances.{alive}
use Rattle.kom_record.specs.Bodies.{nearest}
use Rattle.kom_lives.specs.Living.{FindsEmpty}
use Rattle.kom_refine.specs.Points.{Point, acts_at, AreByCreated, StandsAt}
use Rattle.kom_refine.specs.States.{State}
use Rattle.kom_refine.specs.Steps.{is_below}
use Rattle.kom_state.specs.Parts.{Parts, IsOf, control_spare, state_of}
use Rattle.kom_state.specs.Removals.{dies_with}
use Rattle.kom_state.specs.Rooms.{KeepsRoom, KeepsQueues, FreesRoom}
use Rattle.kom_births.specs.declared.seed.Seed.{Seed}
use Rattle.kom_births.specs.Sowing.{TakesRooms}
use Rattle.kom_nursery.specs.Nurseries.{broods_of}
use Rattle.kom_puts.specs.Puts.{HasRoomFor, TakesOneAtMost, put_in}
use Rattle.kom_changes.specs.Below.{how_many, lives_below}
use Rattle.kom_changes.specs.Ends.{ChildrenAreInSlots, EndsAreOwn, HasChannel}
use Rattle.kom_changes.specs.Relinks.{IsWireHeld}
use Rattle.kom_changes.specs.Sown.{IsCreate, MaySowFirst}

-- the half that a place of c names, read off the state: the inside of an own port, or the outside of a
-- port of the component in a slot
abbrev pub half_in : State → ℕ → Place → Option Half
half_in m c p =
    elim p.slot [
      | None ↦ Some (record { comp = c; port = p.port; side = Inside })
      | Some s ↦ option_map (λ q. record { comp = q; port = p.port; side = Outside }) (m.child c s)
    ]

-- a channel of c is held
pub record HasHeldChannel (v : Parts) (c k : ℕ) : Type 0 where
  pub channel : HasChannel v c k
  pub held : IsWireHeld v c k

-- and the place names a half
pub record MayPlugAt (v : Parts) (c k : ℕ) (p : Place) : Type 0 where
  pub channel : HasHeldChannel v c k
  pub half : is_some (half_in (state_of v) c p) ≡ true

-- what lives below a slot of c is as the bodies there have it
pub record MayDestroy (v : Parts) (c : ℕ) : Type 0 where
  pub ends : EndsAreOwn c v
  pub children : ChildrenAreInSlots c (state_of v)

-- The effect of a handling of an item by c may be done in the state, and there is room for it: `broods` are
-- to be planted by this effect and those after it, and marks have this bound. `told` is who is told of a
-- fault of c.
abbrev pub IsDoable : Declarations → ℕ → Item → Option (ℕ × ℕ) → Effect → List (List Seed) → ℕ → Parts → Type 0
IsDoable S c item told (effect.Hold k) broods bound v = HasChannel v c k
IsDoable S c item told (effect.Resume k) broods bound v = HasChannel v c k
IsDoable S c item told (effect.Unplug k e) broods bound v = HasHeldChannel v c k
IsDoable S c item told (effect.Plug k e p) broods bound v = MayPlugAt v c k p
IsDoable S c item told (effect.Create slot kind birth) broods bound v = MaySowFirst S broods bound v
IsDoable S c item told (effect.Destroy slot) broods bound v = MayDestroy v c
IsDoable S c item told e broods bound v = HasRoomFor 1 (put_in (state_of v) c item told e) v

-- it is the step of the effect at every point of a run for which the old state stands, where c lives, a Create
-- finds its slot empty, and `told` is told of a fault of c
abbrev pub IsDone : Declarations → ℕ → Item → Option (ℕ × ℕ) → Effect → List (List Seed) → List (List Seed) → Parts → Parts → Type 0
IsDone S c item told e broods left v w = (p : Point) (es : List Effect) → IsOf S v → StandsAt S p (state_of v) → AreByCreated S (acts_at p)
    → alive S (acts_at p) c ≡ true → FindsEmpty S (acts_at p) c e → told ≡ nearest S p.before c → broods ≡ broods_of S (acts_at p) c item (e ∷ es)
    → IsCreate S p c item e es left v w

-- the first of the broods
abbrev pub first_of : List (List Seed) → List Seed
first_of [] = []
first_of (b ∷ bs) = b

-- the room is as before, but for one control item of each component that is there
pub record KeepsAllButOne (v w : Parts) : Type 0 where
  pub room : KeepsRoom v w
  pub controls : TakesOneAtMost v w
  pub unborn : (d : ℕ) → length (state_of v).nodes ≤ d → control_spare v d ≤ control_spare w d
  pub queues : KeepsQueues v w

-- what the effect leaves of the room
abbrev pub LeavesRoomBy : ℕ → Effect → List (List Seed) → Parts → Parts → Type 0
LeavesRoomBy c (effect.Create slot kind birth) broods v w = TakesRooms (first_of broods) (length (state_of v).nodes) v w
LeavesRoomBy c (effect.Destroy slot) broods v w = FreesRoom (is_below (state_of v) c slot) (dies_with v c slot) v w
LeavesRoomBy c e broods v w = KeepsAllButOne v w

-- how many components the effect marks at most
abbrev pub marks_by : State → ℕ → Effect → List (List Seed) → ℕ
marks_by m c (effect.Create slot kind birth) broods = length (first_of broods)
marks_by m c (effect.Destroy slot) broods = how_many m (lives_below m c slot)
marks_by m c e broods = 2
