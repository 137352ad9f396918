-- What is there more when an instance is created.
use Rattle.std.specs.Prelude.{◌≡◌, ◌≤◌, ◌<◌, ◌+◌, ◌-◌, ℕ, Bool, true, false, ◌&&◌, ◌==◌, nat_lt, if◌then◌else◌, List, [], ◌∷◌, ◌++◌, length, slice_get, Option, Some, None, is_some}
use Rattle.std.specs.Option.{option_map, option_map_or}
use Rattle.kom_base.specs.declared.numbers.Dir.{Dir}
use Rattle.kom_base.specs.declared.numbers.EntryNo.{EntryNo}
use Rattle.kom_lang.specs.Declarations.{Declarations}
use Rattle.kom_lang.specs.declared.body.Body.{Body}
use Rattle.kom_record.specs.declared.item.Control.{Control as ControlItem}
use Rattle.kom_wiring.specs.declared.link.Link.{Link}
use Rattle.kom_wiring.specs.Wires.{Wires, link_of}
use Rattle.kom_queues.specs.declared.slot.Slot.{Slot}
use Rattle.kom_queues.specs.Slots.{slot_of, content_of, spare_of}
use Rattle.kom_numbers.specs.Numbering.{Numbering}
use Rattle.kom_refine.specs.States.{State}
use Rattle.kom_refine.specs.Steps.{empty_queue, row_with}
use Rattle.kom_state.specs.Parts.{Parts, instance_spare, channel_spare, control_spare, has_row, queue_spare, has_queues, link_seen}
use Rattle.kom_state.specs.Readings.{ancestry_at}
use Rattle.kom_state.specs.Sound.{aim_for}

-- channels with these links have the numbers from `first` on, and nothing waits in them; no channel
-- with such a number was there
pub record IsLaid (n : Numbering) (first : ℕ) (links : List Link) (old new : Wires) (was now : List (ℕ × Slot)) : Type 0 where
  pub links_now : (x : ℕ) → link_of new.links x ≡ (if nat_lt x first then link_of old.links x else slice_get links (x - first))
  pub content : (x : ℕ) (d : Dir) → content_of now x d ≡ (if nat_lt x first then content_of was x d else option_map {U = List EntryNo × Option ℕ} (λ l. ([], aim_for n x d l)) (slice_get links (x - first)))
  pub room : (x : ℕ) (d : Dir) → spare_of was x d ≤ spare_of now x d
  pub slots : (x : ℕ) → is_some (slot_of now x) ≡ is_some (slot_of was x)
  pub spare : old.spare ≤ new.spare + length links

-- the channel x is there with this link, and nothing waits in it
pub record IsOneLaid (n : Numbering) (x : ℕ) (link : Link) (old new : Wires) (was now : List (ℕ × Slot)) : Type 0 where
  pub links_now : (y : ℕ) → link_of new.links y ≡ (if y == x then Some link else link_of old.links y)
  pub content : (y : ℕ) (d : Dir) → content_of now y d ≡ (if y == x then Some ([], aim_for n y d link) else content_of was y d)
  pub room : (y : ℕ) (d : Dir) → spare_of was y d ≤ spare_of now y d
  pub slots : (y : ℕ) → is_some (slot_of now y) ≡ is_some (slot_of was y)
  pub spare : old.spare ≤ new.spare + 1

-- the ancestry of what is created in a place; that of the root is empty
abbrev pub ancestry_in : State → Option (ℕ × ℕ) → List (ℕ × ℕ)
ancestry_in m None = []
ancestry_in m (Some q) = q ∷ ancestry_at m q.0

-- where an instance may be created: in an empty slot of a living one, or with no parent as the first of all
abbrev pub MayPlant : State → Option (ℕ × ℕ) → Type 0
MayPlant m None = m.nodes ≡ []
MayPlant m (Some q) = (m.living q.0 ≡ true) × (m.child q.0 q.1 ≡ None)

abbrev pub is_place : Option (ℕ × ℕ) → ℕ → ℕ → Bool
is_place place p s = option_map_or (λ q. q.0 == p && q.1 == s) place false

abbrev pub items_of : Option ControlItem → List ControlItem
items_of None = []
items_of (Some item) = item ∷ []

-- One instance is created in a place, with a body and the control item that waits for it, if one
-- does; its channels have these links, and nothing waits in them. `count` instances and `chans`
-- channels were there before.
pub record IsPlanted (S : Declarations) (count chans : ℕ) (place : Option (ℕ × ℕ)) (body : Body) (init : Option ControlItem) (links : List Link) (m n : State) : Type 0 where
  pub nodes : n.nodes ≡ m.nodes ++ record { kind = body.kind; ancestry = ancestry_in m place } ∷ []
  pub living : (d : ℕ) → n.living d ≡ (if d == count then true else m.living d)
  pub child : (p s : ℕ) → n.child p s ≡ (if is_place place p s then Some count else m.child p s)
  pub links_now : (x : ℕ) → n.links x ≡ (if nat_lt x chans then m.links x else option_map link_seen (slice_get links (x - chans)))
  pub queues : (x : ℕ) (d : Dir) → n.queues x d ≡ (if nat_lt x chans then m.queues x d else option_map (empty_queue d) (n.links x))
  pub controls : (d : ℕ) → n.controls d ≡ (if d == count then Some (row_with S (items_of init) body) else m.controls d)
  pub bodies : (d : ℕ) → n.bodies d ≡ (if d == count then Some body else m.bodies d)

-- room for one instance, and for its channels
pub record HasRoomFor (links : List Link) (init : Option ControlItem) (count chans : ℕ) (v : Parts) : Type 0 where
  pub instances : 0 < instance_spare v
  pub channels : length links ≤ channel_spare v
  pub row : has_row v count ≡ true
  pub controls : length (items_of init) ≤ control_spare v count
  pub queues : (x : ℕ) → chans ≤ x → x < chans + length links → has_queues v x ≡ true

-- the room is as before, less what one instance and its channels take
pub record TakesRoom (links : List Link) (init : Option ControlItem) (count : ℕ) (m n : Parts) : Type 0 where
  pub outs : n.numbers.outs ≡ m.numbers.outs
  pub counts : n.numbers.counts ≡ m.numbers.counts ++ length links ∷ []
  pub instances : instance_spare m ≤ instance_spare n + 1
  pub channels : channel_spare m ≤ channel_spare n + length links
  pub rows : (c : ℕ) → has_row n c ≡ has_row m c
  pub controls : (c : ℕ) → control_spare m c ≤ control_spare n c + (if c == count then length (items_of init) else 0)
  pub queues : (x : ℕ) → has_queues n x ≡ has_queues m x
  pub queue_spares : (x : ℕ) (d : Dir) → queue_spare m x d ≤ queue_spare n x d
