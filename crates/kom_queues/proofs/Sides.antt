-- The two sides of a slot.
use Rattle.std.proofs.Common.{◌≡◌, ◌≢◌, ◌≤◌, ℕ, Bool, true, false, cond, eqb, List, [], Option, Some, None, ⊎_elim, refl, sym, ap, ◌∙◌, subst}
use Rattle.std.proofs.lemmas.Bool.{eqb-true}
use Rattle.std.specs.Option.{IsSome, option_map, option_map_or, option_and_then}
use Rattle.kom_base.specs.declared.numbers.Dir.{Dir}
use Rattle.kom_base.specs.declared.numbers.Dir.TheVariants.{Plus, Minus}
use Rattle.kom_base.specs.declared.numbers.EntryNo.{EntryNo}
use Rattle.kom_base.specs.Lists.{first}
use Rattle.kom_queues.specs.declared.slot.Slot.{Slot}
use Rattle.kom_queues.specs.Slots.{slot_of, is_there, queue_of, spare_of, content_of, side, with_side, arrival_at}
use Rattle.kom_queues.specs.Waiting.{Waiting, arrival_of}
use Rattle.kom_queues.proofs.Fronting.{Sets, sets_each, same_or_dir}

-- the other direction waits as before
pub other_arrival : (s : Slot) (d : Dir) (w : Waiting) (e : Dir) → e ≢ d → arrival_at (with_side s d w) e ≡ arrival_at s e
other_arrival s Plus w Plus n = absurd (n refl)
other_arrival s Plus w Minus n = refl
other_arrival s Minus w Plus n = refl
other_arrival s Minus w Minus n = absurd (n refl)

pub same_side : (s : Slot) (d : Dir) (w : Waiting) → side (with_side s d w) d ≡ w
same_side s Plus w = refl
same_side s Minus w = refl

pub other_side : (s : Slot) (d : Dir) (w : Waiting) (e : Dir) → e ≢ d → side (with_side s d w) e ≡ side s e
other_side s Plus w Plus n = absurd (n refl)
other_side s Plus w Minus n = refl
other_side s Minus w Plus n = refl
other_side s Minus w Minus n = absurd (n refl)

pub same_living : (s : Slot) (d : Dir) (w : Waiting) → (with_side s d w).living ≡ s.living
same_living s Plus w = refl
same_living s Minus w = refl

-- a channel that is there has a slot
pub slot_there : (m : List (ℕ × Slot)) (x : ℕ) → is_there m x ≡ true → IsSome (slot_of m x)
slot_there m x h = at (slot_of m x) refl
  where
    at : (g : Option Slot) → slot_of m x ≡ g → IsSome (slot_of m x)
    at None e = absurd (cc (ap (λ g. option_map_or (λ (s : Slot). s.living) g false) e))
    at (Some s) e = subst IsSome (sym e) refl

pub spare_is : (m : List (ℕ × Slot)) (x : ℕ) (d : Dir) (s : Slot) → slot_of m x ≡ Some s → spare_of m x d ≡ (side s d).spare
spare_is m x d s e = ap (λ g. option_map_or (λ (s : Slot). (side s d).spare) g 0) e

pub living_is : (m : List (ℕ × Slot)) (x : ℕ) (s : Slot) → slot_of m x ≡ Some s → is_there m x ≡ true → s.living ≡ true
living_is m x s e h = sym (ap (λ g. option_map_or (λ (s : Slot). s.living) g false) e) ∙ h

pub queue_is : (m : List (ℕ × Slot)) (x : ℕ) (d : Dir) (s : Slot) → slot_of m x ≡ Some s → is_there m x ≡ true → queue_of m x d ≡ Some (side s d)
queue_is m x d s e h = ap (option_and_then (λ (s : Slot). cond s.living (Some (side s d)) None)) e ∙ ap (λ b. cond b (Some (side s d)) None) (living_is m x s e h)

-- each slot after a change of one, by the old slot
pub each_is : (old new : List (ℕ × Slot)) (x : ℕ) (f : Slot → Slot) (s : Slot) → slot_of old x ≡ Some s → Sets old new x (Some (f s)) → (y : ℕ) → slot_of new y ≡ cond (eqb y x) (option_map f (slot_of old x)) (slot_of old y)
each_is old new x f s e sets y = sets_each old new x (Some (f s)) sets y ∙ ap (λ g. cond (eqb y x) g (slot_of old y)) (sym (ap (option_map f) e))

-- a direction of a channel that is not there, or that is aimed nowhere, waits for nobody
pub dead_arrival : (s : Slot) (d : Dir) → s.living ≡ false → arrival_at s d ≡ None
dead_arrival s d h = ap (λ b. cond b (arrival_of (side s d)) None) h

pub empty_arrival : (s : Slot) (d : Dir) → (side s d).aim ≡ None → arrival_at s d ≡ None
empty_arrival s d h = at s.living
  where
    none : arrival_of (side s d) ≡ None
    none = ap (λ g. option_and_then (λ c. option_map (λ n. record { comp = c; no = n }) (first (side s d).numbers)) g) h

    at : (b : Bool) → cond b (arrival_of (side s d)) None ≡ None
    at true = none
    at false = refl

pub dead_is : (m : List (ℕ × Slot)) (x : ℕ) (s : Slot) → slot_of m x ≡ Some s → is_there m x ≡ false → s.living ≡ false
dead_is m x s e h = sym (ap (λ g. option_map_or (λ (s : Slot). s.living) g false) e) ∙ h

pub both_aims : (s : Slot) → s.plus.aim ≡ None → s.minus.aim ≡ None → (d : Dir) → (side s d).aim ≡ None
both_aims s p q Plus = p
both_aims s p q Minus = q

pub both_empty : (s : Slot) → s.plus.numbers ≡ [] → s.minus.numbers ≡ [] → (d : Dir) → (side s d).numbers ≡ []
both_empty s p q Plus = p
both_empty s p q Minus = q

pub both_spare : (s t : Slot) → s.plus.spare ≤ t.plus.spare → s.minus.spare ≤ t.minus.spare → (d : Dir) → (side s d).spare ≤ (side t d).spare
both_spare s t p q Plus = p
both_spare s t p q Minus = q

pub content_is : (m : List (ℕ × Slot)) (x : ℕ) (d : Dir) (s : Slot) → slot_of m x ≡ Some s → content_of m x d ≡ cond s.living (Some ((side s d).numbers, (side s d).aim)) None
content_is m x d s e = ap (λ g. option_map {U = List EntryNo × Option ℕ} (λ (w : Waiting). (w.numbers, w.aim)) (option_and_then (λ (s : Slot). cond s.living (Some (side s d)) None) g)) e ∙ at s.living
  where
    at : (b : Bool) → option_map {U = List EntryNo × Option ℕ} (λ (w : Waiting). (w.numbers, w.aim)) (cond b (Some (side s d)) None) ≡ cond b (Some ((side s d).numbers, (side s d).aim)) None
    at true = refl
    at false = refl

pub there_is_living : (m : List (ℕ × Slot)) (x : ℕ) (s : Slot) → slot_of m x ≡ Some s → is_there m x ≡ s.living
there_is_living m x s e = ap (λ g. option_map_or (λ (s : Slot). s.living) g false) e

-- with room only, both directions wait for what they did
pub same_arrivals : (s t : Slot) (d : Dir) → t ≡ with_side s d (side t d) → (side t d).numbers ≡ (side s d).numbers → (side t d).aim ≡ (side s d).aim → (e : Dir) → arrival_at t e ≡ arrival_at s e
same_arrivals s t d rest numbers aim e = ⊎_elim
    (λ this. ap (λ b. cond b (arrival_of (side t e)) None) (ap (λ (s : Slot). s.living) rest ∙ same_living s d (side t d))
    ∙ ap (λ e. cond s.living (arrival_of (side t e)) None) this
    ∙ ap (λ ns. cond s.living (option_and_then (λ c. option_map (λ n. record { comp = c; no = n }) (first ns)) (side t d).aim) None) numbers
    ∙ ap (λ g. cond s.living (option_and_then (λ c. option_map (λ n. record { comp = c; no = n }) (first (side s d).numbers)) g) None) aim
    ∙ ap (λ e. cond s.living (arrival_of (side s e)) None) (sym this))
    (λ other. ap (λ t. arrival_at t e) rest ∙ other_arrival s d (side t d) e other)
    (same_or_dir d e)

-- a channel is there as before after a change of what waits in one direction
pub stays_there : (old new : List (ℕ × Slot)) (x : ℕ) (d : Dir) (w : Slot → Waiting) → ((y : ℕ) → slot_of new y ≡ cond (eqb y x) (option_map (λ s. with_side s d (w s)) (slot_of old x)) (slot_of old y)) → (y : ℕ) → is_there new y ≡ is_there old y
stays_there old new x d w slots y = at (eqb y x) refl
  where
    here : (g : Option Slot) → option_map_or (λ (s : Slot). s.living) (option_map (λ s. with_side s d (w s)) g) false ≡ option_map_or (λ (s : Slot). s.living) g false
    here None = refl
    here (Some s) = same_living s d (w s)

    at : (b : Bool) → eqb y x ≡ b → is_there new y ≡ is_there old y
    at true t = ap (λ g. option_map_or (λ (s : Slot). s.living) g false) (slots y ∙ ap (λ b. cond b (option_map (λ s. with_side s d (w s)) (slot_of old x)) (slot_of old y)) t) ∙ here (slot_of old x) ∙ ap (is_there old) (sym (eqb-true y x t))
    at false t = ap (λ g. option_map_or (λ (s : Slot). s.living) g false) (slots y ∙ ap (λ b. cond b (option_map (λ s. with_side s d (w s)) (slot_of old x)) (slot_of old y)) t)
