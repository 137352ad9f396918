-- Whom a direction waits for, and the queues after a change of one channel.
use Rattle.std.proofs.Common.{◌≡◌, ℕ, Bool, true, false, ◌&&◌, List, Option, Some, None, refl, sym, ap, ◌∙◌, if◌then◌else◌, inl, inr, subst}
use Rattle.std.proofs.lemmas.Bool.Decides.{eqb_tells}
use Rattle.std.specs.Prelude.{is_some, unwrap_or, ◌==◌}
use Rattle.std.specs.Option.{option_map, option_map_or, option_and_then}
use Rattle.kom_base.specs.declared.numbers.Dir.{Dir}
use Rattle.kom_base.specs.declared.numbers.Dir.TheVariants.{Plus, Minus}
use Rattle.kom_base.specs.declared.numbers.Half.{Half}
use Rattle.kom_base.specs.Numbers.{opposite, same_dir}
use Rattle.kom_wiring.specs.declared.link.Link.{Link}
use Rattle.kom_wiring.specs.Wires.{link_of, link_at, place_at, free_link}
use Rattle.kom_queues.specs.declared.slot.Slot.{Slot}
use Rattle.kom_queues.specs.Waiting.{Waiting}
use Rattle.kom_queues.specs.Slots.{slot_of, queue_of, spare_of, side, with_side}
use Rattle.kom_numbers.specs.Numbering.{Numbering, leads_out}
use Rattle.kom_refine.specs.States.{end_of}
use Rattle.kom_state.specs.Parts.{link_seen}
use Rattle.kom_state.specs.Sound.{aim_for}

held_seen : (o : Option Link) → option_map_or (λ (l : Link). l.held) o false ≡ (unwrap_or o free_link).held
held_seen None = refl
held_seen (Some l) = refl

place_seen : (o : Option Link) (e : Dir) → option_and_then (λ (l : Link). place_at l e) o ≡ end_of (link_seen (unwrap_or o free_link)) e
place_seen None Plus = refl
place_seen None Minus = refl
place_seen (Some l) Plus = refl
place_seen (Some l) Minus = refl

abbrev aim_by : Bool → Bool → Option Half → Option ℕ
aim_by out held half = if out then None else if held then None else option_map (λ h. h.comp) half

module _ (n : Numbering) (links : List (ℕ × Link)) (x : ℕ) (d : Dir) where
  pub out_aim : leads_out n x d ≡ true → None ≡ aim_for n x d (link_at links x)
  out_aim h = sym (ap (λ b. aim_by b (link_at links x).held (end_of (link_seen (link_at links x)) (opposite d))) h)

  pub held_aim : leads_out n x d ≡ false → option_map_or (λ (l : Link). l.held) (link_of links x) false ≡ true → None ≡ aim_for n x d (link_at links x)
  held_aim h k =
      sym (ap (λ b. aim_by b (link_at links x).held (end_of (link_seen (link_at links x)) (opposite d))) h
      ∙ ap (λ b. aim_by false b (end_of (link_seen (link_at links x)) (opposite d))) (sym (held_seen (link_of links x)) ∙ k))

  pub end_aim : leads_out n x d ≡ false → option_map_or (λ (l : Link). l.held) (link_of links x) false ≡ false → option_map (λ (h : Half). h.comp) (option_and_then (λ (l : Link). place_at l (opposite d)) (link_of links x)) ≡ aim_for n x d (link_at links x)
  end_aim h k =
      ap (option_map (λ (h : Half). h.comp)) (place_seen (link_of links x) (opposite d))
      ∙ sym (ap (λ b. aim_by b (link_at links x).held (end_of (link_seen (link_at links x)) (opposite d))) h
      ∙ ap (λ b. aim_by false b (end_of (link_seen (link_at links x)) (opposite d))) (sym (held_seen (link_of links x)) ∙ k))

-- ---- one direction of one channel is changed

abbrev pub here : ℕ → Dir → ℕ → Dir → Bool
here x d y e = y == x && same_dir d e

abbrev waits : Dir → Slot → Option Waiting
waits e s = if s.living then Some (side s e) else None

slot_change : (d e : Dir) (f : Waiting → Waiting) (o : Option Slot)
    → option_and_then (waits e) (option_map (λ s. with_side s d (f (side s d))) o) ≡ (if same_dir d e then option_map f (option_and_then (waits e) o) else option_and_then (waits e) o)
slot_change Plus Plus f None = refl
slot_change Plus Minus f None = refl
slot_change Minus Plus f None = refl
slot_change Minus Minus f None = refl
slot_change Plus Plus f (Some s) = go s.living
  where
    go : (b : Bool) → (if b then Some (f s.plus) else None) ≡ option_map f (if b then Some s.plus else None)
    go true = refl
    go false = refl
slot_change Plus Minus f (Some s) = refl
slot_change Minus Plus f (Some s) = refl
slot_change Minus Minus f (Some s) = go s.living
  where
    go : (b : Bool) → (if b then Some (f s.minus) else None) ≡ option_map f (if b then Some s.minus else None)
    go true = refl
    go false = refl

-- by whether a number is the one that is changed
pub by_number : (x y : ℕ) (P : Bool → Type 0) → (y ≡ x → P true) → P false → P (y == x)
by_number x y P same other = elim (eqb_tells y x) [
  | inl t ↦ subst P (sym t.0) (same t.1)
  | inr f ↦ subst P (sym f.0) other
]

pub queue_change : (old new : List (ℕ × Slot)) (x : ℕ) (d : Dir) (f : Waiting → Waiting)
    → ((y : ℕ) → slot_of new y ≡ (if y == x then option_map (λ s. with_side s d (f (side s d))) (slot_of old x) else slot_of old y))
    → (y : ℕ) (e : Dir) → queue_of new y e ≡ (if here x d y e then option_map f (queue_of old y e) else queue_of old y e)
queue_change old new x d f h y e =
    ap (option_and_then (waits e)) (h y)
    ∙ by_number x y (λ b. option_and_then (waits e) (if b then option_map (λ s. with_side s d (f (side s d))) (slot_of old x) else slot_of old y) ≡ (if b && same_dir d e then option_map f (queue_of old y e) else queue_of old y e))
    (λ t. slot_change d e f (slot_of old x) ∙ ap (λ z. if same_dir d e then option_map f (queue_of old z e) else queue_of old z e) (sym t))
    refl

some_change : (d : Dir) (f : Waiting → Waiting) (o : Option Slot) → is_some (option_map (λ s. with_side s d (f (side s d))) o) ≡ is_some o
some_change d f None = refl
some_change d f (Some s) = refl

-- each channel has its queues or the room for them as before
pub slots_kept : (old new : List (ℕ × Slot)) (x : ℕ) (d : Dir) (f : Waiting → Waiting)
    → ((y : ℕ) → slot_of new y ≡ (if y == x then option_map (λ s. with_side s d (f (side s d))) (slot_of old x) else slot_of old y))
    → (y : ℕ) → is_some (slot_of new y) ≡ is_some (slot_of old y)
slots_kept old new x d f h y =
    ap is_some (h y)
    ∙ by_number x y (λ b. is_some (if b then option_map (λ s. with_side s d (f (side s d))) (slot_of old x) else slot_of old y) ≡ is_some (slot_of old y))
    (λ t. some_change d f (slot_of old x) ∙ ap (λ z. is_some (slot_of old z)) (sym t))
    refl

room_in : Dir → Option Slot → ℕ
room_in e o = option_map_or (λ s. (side s e).spare) o 0

room_change : (d e : Dir) (f : Waiting → Waiting) (g : ℕ → ℕ) → ((w : Waiting) → (f w).spare ≡ g w.spare) → g 0 ≡ 0 → (o : Option Slot)
    → option_map_or (λ s. (side s e).spare) (option_map (λ s. with_side s d (f (side s d))) o) 0 ≡ (if same_dir d e then g (option_map_or (λ s. (side s e).spare) o 0) else option_map_or (λ s. (side s e).spare) o 0)
room_change Plus Plus f g h z None = sym z
room_change Plus Minus f g h z None = refl
room_change Minus Plus f g h z None = refl
room_change Minus Minus f g h z None = sym z
room_change Plus Plus f g h z (Some s) = h s.plus
room_change Plus Minus f g h z (Some s) = refl
room_change Minus Plus f g h z (Some s) = refl
room_change Minus Minus f g h z (Some s) = h s.minus

-- the room in each direction
pub spare_change : (old new : List (ℕ × Slot)) (x : ℕ) (d : Dir) (f : Waiting → Waiting) (g : ℕ → ℕ) → ((w : Waiting) → (f w).spare ≡ g w.spare) → g 0 ≡ 0
    → ((y : ℕ) → slot_of new y ≡ (if y == x then option_map (λ s. with_side s d (f (side s d))) (slot_of old x) else slot_of old y))
    → (y : ℕ) (e : Dir) → spare_of new y e ≡ (if here x d y e then g (spare_of old y e) else spare_of old y e)
spare_change old new x d f g k z h y e =
    ap (λ o. option_map_or (λ (s : Slot). (side s e).spare) o 0) (h y)
    ∙ by_number x y (λ b. option_map_or (λ (s : Slot). (side s e).spare) (if b then option_map (λ s. with_side s d (f (side s d))) (slot_of old x) else slot_of old y) 0 ≡ (if b && same_dir d e then g (spare_of old y e) else spare_of old y e))
    (λ t. room_change d e f g k z (slot_of old x) ∙ ap (λ z. if same_dir d e then g (spare_of old z e) else spare_of old z e) (sym t))
    refl

pub either_way : {X : Type 0} (b : Bool) (u : X) → (if b then u else u) ≡ u
either_way true u = refl
either_way false u = refl

-- a change of both directions of one channel
pub both_change : (x y : ℕ) (e : Dir) (f : Dir → Waiting → Waiting) (o p q : Option Waiting)
    → p ≡ (if here x Plus y e then option_map (f Plus) o else o) → q ≡ (if here x Minus y e then option_map (f Minus) p else p) → q ≡ (if y == x then option_map (f e) o else o)
both_change x y Plus f o p q a b = b ∙ go (y == x) a
  where
    go : (t : Bool) → p ≡ (if t && true then option_map (f Plus) o else o) → (if t && false then option_map (f Minus) p else p) ≡ (if t then option_map (f Plus) o else o)
    go true a = a
    go false a = a
both_change x y Minus f o p q a b = b ∙ go (y == x) a
  where
    go : (t : Bool) → p ≡ (if t && false then option_map (f Plus) o else o) → (if t && true then option_map (f Minus) p else p) ≡ (if t then option_map (f Minus) o else o)
    go true a = ap (option_map (f Minus)) a
    go false a = a
