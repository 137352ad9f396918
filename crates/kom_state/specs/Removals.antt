-- What is left when an instance and all below it end.
use Rattle.std.specs.Prelude.{◌≡◌, ◌≢◌, ◌≤◌, ◌<◌, ◌+◌, ℕ, Bool, true, false, not, ◌&&◌, ◌==◌, ◌⊎◌, if◌then◌else◌, List, length, map, Option, Some, None}
use Rattle.std.specs.List.{list_any}
use Rattle.std.specs.Option.{option_map_or}
use Rattle.kom_base.specs.declared.numbers.Dir.{Dir}
use Rattle.kom_wiring.specs.Wires.{Wires, link_of}
use Rattle.kom_queues.specs.declared.slot.Slot.{Slot}
use Rattle.kom_queues.specs.Slots.{slot_of, queue_of}
use Rattle.kom_life.specs.Rows.{living_of, has_room, spare_of}
use Rattle.kom_tree.specs.Forest.{Instance, is_alive, is_slot, line_of, parent_of, occupant, is_under}
use Rattle.kom_numbers.specs.Numbering.{wire_at, channel_at, is_of}
use Rattle.kom_refine.specs.Steps.{is_below}
use Rattle.kom_state.specs.Shelves.{body_at}
use Rattle.kom_state.specs.Parts.{Parts, node_seen, state_of}
use Rattle.kom_state.specs.Sound.{lives}

-- the instance was made in slot `slot` of c, or below what was
abbrev pub lies_in : List Instance → ℕ → ℕ → ℕ → Bool
lies_in is c slot d = list_any (is_slot c slot) (line_of is d)

-- a living instance in the slot or below, below which nobody lives; none where nobody lives there
abbrev pub IsDeepest : List Instance → ℕ → ℕ → Option ℕ → Type 0
IsDeepest is c slot None = (d : ℕ) → is_alive is d ≡ true → lies_in is c slot d ≡ false
IsDeepest is c slot (Some d) =
    (is_alive is d ≡ true) × (lies_in is c slot d ≡ true) × ((e : ℕ) → is_alive is e ≡ true → is_under d (parent_of is e) ≡ false)

-- the channels from `first` on, `count` of them, are gone with their queues
pub record IsCutOut (first count : ℕ) (old new : Wires) (was now : List (ℕ × Slot)) : Type 0 where
  pub no_link : (x : ℕ) → first ≤ x → x < first + count → link_of new.links x ≡ None
  pub links : (x : ℕ) → (x < first) ⊎ (first + count ≤ x) → link_of new.links x ≡ link_of old.links x
  pub no_slot : (x : ℕ) → first ≤ x → x < first + count → slot_of now x ≡ None
  pub slots : (x : ℕ) → (x < first) ⊎ (first + count ≤ x) → slot_of now x ≡ slot_of was x
  pub spare : old.spare ≤ new.spare

-- the channel x is of the environment or of a living instance
abbrev pub is_living : Parts → ℕ → Bool
is_living v x = option_map_or (lives v.tree.instances) (channel_at v.numbers x) false

-- what lives has what it had, and what does not live has nothing
pub record HasOnlyLiving (v w : Parts) : Type 0 where
  pub numbers : w.numbers ≡ v.numbers
  pub nodes : map node_seen w.tree.instances ≡ map node_seen v.tree.instances
  pub lines : (e : ℕ) → line_of w.tree.instances e ≡ line_of v.tree.instances e
  pub fewer : (e : ℕ) → is_alive w.tree.instances e ≡ true → is_alive v.tree.instances e ≡ true
  pub links : (x : ℕ) → link_of w.wires.links x ≡ (if is_living w x then link_of v.wires.links x else None)
  pub queues : (x : ℕ) (d : Dir) → queue_of w.slots x d ≡ (if is_living w x then queue_of v.slots x d else None)
  pub rows : (e : ℕ) → living_of w.rows e ≡ (if is_alive w.tree.instances e then living_of v.rows e else None)
  pub bodies : (e : ℕ) → body_at w.bodies.bodies e ≡ (if is_alive w.tree.instances e then body_at v.bodies.bodies e else None)
  pub instances : w.tree.spare ≡ v.tree.spare
  pub shelf : w.bodies.spare ≡ v.bodies.spare
  pub long : length w.bodies.bodies ≡ length v.bodies.bodies
  pub channels : v.wires.spare ≤ w.wires.spare
  pub has_rows : (e : ℕ) → has_room w.rows e ≡ has_room v.rows e

-- the instance d has ended
pub record IsWithout (d : ℕ) (v w : Parts) : Type 0 where
  pub only : HasOnlyLiving v w
  pub living : (e : ℕ) → is_alive w.tree.instances e ≡ (is_alive v.tree.instances e && not (e == d))
  pub occupants : (p s : ℕ) → is_alive w.tree.instances p ≡ true → occupant v.tree.instances p s ≢ Some d → occupant w.tree.instances p s ≡ occupant v.tree.instances p s
  pub controls : (e : ℕ) → e ≢ d → spare_of w.rows e ≡ spare_of v.rows e
  pub slots : (x : ℕ) → is_of v.numbers d x ≡ false → slot_of w.slots x ≡ slot_of v.slots x

-- x is a channel of an instance in the slot, or below
abbrev pub dies_in : Parts → ℕ → ℕ → ℕ → Bool
dies_in v c slot x = option_map_or (λ q. lies_in v.tree.instances c slot q.0) (wire_at v.numbers x) false

-- some of what lies in the slot has ended
pub record IsCut (c slot : ℕ) (v w : Parts) : Type 0 where
  pub only : HasOnlyLiving v w
  pub others : (e : ℕ) → is_alive v.tree.instances e ≡ true → lies_in v.tree.instances c slot e ≡ false → is_alive w.tree.instances e ≡ true
  pub occupants : (p s : ℕ) → is_alive w.tree.instances p ≡ true → lies_in v.tree.instances c slot p ≡ false → is_slot c slot (p, s) ≡ false → occupant w.tree.instances p s ≡ occupant v.tree.instances p s
  pub controls : (e : ℕ) → lies_in v.tree.instances c slot e ≡ false → spare_of w.rows e ≡ spare_of v.rows e
  pub slots : (x : ℕ) → dies_in v c slot x ≡ false → slot_of w.slots x ≡ slot_of v.slots x

-- a channel ends with the component in the slot of c, or with one below it
abbrev pub dies_with : Parts → ℕ → ℕ → ℕ → Bool
dies_with v c slot x = option_map_or (λ q. is_below (state_of v) c slot q.0) (wire_at v.numbers x) false
