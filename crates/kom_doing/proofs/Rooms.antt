-- The room that an effect leaves for those after it.
use Rattle.std.proofs.Common.{◌≡◌, ℕ, suc, ◌+◌, ◌≤◌, ◌⊎◌, inl, inr, refl, sym, ap, ◌∙◌, List, [], ◌∷◌, length, map, Option, Some, None, arith}
use Rattle.std.specs.Prelude.{sum}
use Rattle.std.specs.Option.{option_and_then, option_map}
use Rattle.std.proofs.lemmas.List.{length-append}
use Rattle.std.proofs.lemmas.List.Sums.{sum_by-cons}
use Rattle.kom_lang.specs.declared.body.Effect.{Effect}
use Rattle.kom_lang.specs.declared.body.Effect.TheVariants as effect
use Rattle.kom_record.specs.declared.item.Control.{Control as ControlItem}
use Rattle.kom_record.specs.declared.item.Control.TheVariants.{Start, Stop, Dump, Fault}
use Rattle.kom_record.specs.declared.item.Item.{Item}
use Rattle.kom_record.specs.Controls.{fault_in}
use Rattle.kom_state.specs.Parts.{Parts, control_spare, state_of}
use Rattle.kom_births.specs.declared.seed.Seed.{Seed}
use Rattle.kom_births.specs.Seeds.{links_of}
use Rattle.kom_puts.specs.Puts.{HasRoomFor, escalated_to, put_in, to_child_in}
use Rattle.kom_doing.specs.Rooms.{PutsHaveRoom}
use Rattle.kom_nursery.specs.Tops.{TopsHaveRoom}

-- what a step leaves of the room for control items of the children of c and of whoever is told: one less at most,
-- and enough for children that are new
pub record Spares (n c : ℕ) (told : Option (ℕ × ℕ)) (v w : Parts) : Type 0 where
  pub kids : (s d : ℕ) → (state_of w).child c s ≡ Some d → (((state_of v).child c s ≡ Some d) × (control_spare v d ≤ control_spare w d + 1)) ⊎ (n ≤ control_spare w d)
  pub tells : (q : ℕ × ℕ) → told ≡ Some q → control_spare v q.0 ≤ control_spare w q.0 + 1

module _ (n c : ℕ) (item : Item) (told : Option (ℕ × ℕ)) (v w : Parts) (k : Spares n c told v w) where
  child_left : (s : ℕ) (i : ControlItem) → HasRoomFor (suc n) (to_child_in (state_of v) c s i) v → HasRoomFor n (to_child_in (state_of w) c s i) w
  child_left s i room = go ((state_of w).child c s) refl
    where
      old : (o : Option ℕ) (d : ℕ) → o ≡ Some d → HasRoomFor (suc n) (option_map (λ d. (d, i)) o) v → suc n ≤ control_spare v d
      old None d e r = absurd cc
      old (Some q) d e r = let same : q ≡ d = cc in let z = ap (control_spare v) same in omega (arith, r, z)

      go : (o : Option ℕ) → (state_of w).child c s ≡ o → HasRoomFor n (option_map (λ d. (d, i)) o) w
      go None e = tt
      go (Some d) e = elim (k.kids s d e) [
        | inl y ↦ (let a = old ((state_of v).child c s) d y.0 room in let b = y.1 in omega (arith, a, b))
        | inr y ↦ y
      ]

  told_left : HasRoomFor (suc n) (escalated_to item told) v → HasRoomFor n (escalated_to item told) w
  told_left = go (fault_in item) told refl
    where
      go : (f : Option ℕ) (t : Option (ℕ × ℕ)) → told ≡ t → HasRoomFor (suc n) (option_and_then (λ n. option_map (λ (q : ℕ × ℕ). (q.0, Fault q.1 n)) t) f) v
          → HasRoomFor n (option_and_then (λ n. option_map (λ (q : ℕ × ℕ). (q.0, Fault q.1 n)) t) f) w
      go None t e r = tt
      go (Some x) None e r = tt
      go (Some x) (Some q) e r = let a = k.tells q e in omega (arith, a, r)

  one_left : (e : Effect) → HasRoomFor (suc n) (put_in (state_of v) c item told e) v → HasRoomFor n (put_in (state_of w) c item told e) w
  one_left (effect.Start s) r = child_left s Start r
  one_left (effect.Stop s) r = child_left s Stop r
  one_left (effect.Dump s) r = child_left s Dump r
  one_left effect.Escalate r = told_left r
  one_left (effect.Trigger port event) r = tt
  one_left (effect.Answer event) r = tt
  one_left (effect.Create slot kind birth) r = tt
  one_left (effect.Destroy slot) r = tt
  one_left (effect.Hold j) r = tt
  one_left (effect.Resume j) r = tt
  one_left (effect.Unplug j f) r = tt
  one_left (effect.Plug j f q) r = tt

  pub puts_left : (es : List Effect) → PutsHaveRoom (suc n) c item told es v → PutsHaveRoom n c item told es w
  puts_left [] r = tt
  puts_left (e ∷ es) r = (one_left e r.0, puts_left es r.1)

-- room for one item is less
pub room_for_one : (n : ℕ) (o : Option (ℕ × ControlItem)) (v : Parts) → HasRoomFor (suc n) o v → HasRoomFor 1 o v
room_for_one n None v r = tt
room_for_one n (Some a) v r = omega (arith, r)

-- the first components of broods keep their room
pub tops_left : (n count : ℕ) (bs : List (List Seed)) (v w : Parts) → ((d : ℕ) → count ≤ d → control_spare v d ≤ control_spare w d) → TopsHaveRoom (suc n) bs count v → TopsHaveRoom n bs count w
tops_left n count [] v w h r = tt
tops_left n count (b ∷ bs) v w h r = (
  (let a = h count (omega arith) in let z = r.0 in omega (arith, a, z)),
  tops_left n (count + length b) bs v w (λ d l. h d (omega (arith, l))) r.1,
)

pub sum_links : (seeds : List Seed) → sum (map (λ (s : Seed). length s.links) seeds) ≡ length (links_of seeds)
sum_links [] = refl
sum_links (s ∷ ss) = sum_by-cons (λ x. x) (length s.links) (map (λ (s : Seed). length s.links) ss) ∙ ap (λ k. length s.links + k) (sum_links ss) ∙ sym (length-append s.links (links_of ss))
