-- What the conditions of the calls say of the parts.
use Rattle.std.proofs.Common.{◌≡◌, ℕ, Bool, true, false, List, length, Option, Some, None, refl, sym, ap, ◌∙◌, if◌then◌else◌, ◌<◌}
use Rattle.std.specs.Prelude.{is_some, slice_get}
use Rattle.std.specs.Option.{IsSome, option_map, option_map_or, option_and_then}
use Rattle.kom_base.specs.declared.numbers.Dir.{Dir}
use Rattle.kom_base.specs.declared.numbers.Dir.TheVariants.{Plus}
use Rattle.kom_base.specs.Lists.{first}
use Rattle.kom_wiring.specs.Wires.{link_of}
use Rattle.kom_queues.specs.declared.slot.Slot.{Slot}
use Rattle.kom_queues.specs.Waiting.{Waiting}
use Rattle.kom_queues.specs.Slots.{slot_of, queue_of, is_there, side}
use Rattle.kom_life.specs.declared.row.Row.{Row}
use Rattle.kom_index.specs.Stock.{items}
use Rattle.kom_life.specs.Rows as rows
use Rattle.kom_numbers.specs.Numbering.{leads_out}
use Rattle.kom_state.specs.Shelves.{body_at}
use Rattle.kom_state.specs.Parts.{Parts, state_of, link_seen, row_seen, queue_in, control_spare, queue_spare}
use Rattle.kom_state.specs.Readings.{first_item, first_number}
use Rattle.kom_state.specs.Sound.{IsTied, aim_for}

pub mapped : {A B : Type 0} (f : A → B) (o : Option A) → is_some (option_map f o) ≡ is_some o
mapped f None = refl
mapped f (Some a) = refl

only_if : {A : Type 0} (b : Bool) (a : A) → is_some (if b then Some a else None) ≡ b
only_if true a = refl
only_if false a = refl

pub no_some : {A : Type 0} (o : Option A) → o ≡ None → IsSome o → ⊥
no_some o e h = let f : false ≡ true = sym (ap is_some e) ∙ h in cc

pub slot_living : (m : List (ℕ × Slot)) (x : ℕ) (d : Dir) → is_some (queue_of m x d) ≡ is_there m x
slot_living m x d = at (slot_of m x)
  where
    at : (o : Option Slot) → is_some (option_and_then (λ (s : Slot). if s.living then Some (side s d) else None) o) ≡ option_map_or (λ (s : Slot). s.living) o false
    at None = refl
    at (Some s) = only_if s.living (side s d)

pub row_living : (m : List Row) (c : ℕ) → is_some (rows.living_of m c) ≡ rows.is_there m c
row_living m c = at (slice_get m c)
  where
    at : (o : Option Row) → is_some (option_and_then rows.living_in o) ≡ option_map_or (λ (r : Row). r.living) o false
    at None = refl
    at (Some r) = only_if r.living (record { controls = items r.controls; active = r.active; catches = r.catches })

module _ (v : Parts) where
  -- a living component has a control row
  pub living_row : (c : ℕ) → IsTied v → (state_of v).living c ≡ true → rows.is_there v.rows c ≡ true
  unfolding state_of
  living_row c t h = t.rows c ∙ h

  -- and a body
  pub body_there : (c : ℕ) → IsTied v → (state_of v).living c ≡ true → IsSome (body_at v.bodies.bodies c)
  unfolding state_of
  body_there c t h = t.bodies c ∙ h

  pub item_is : (c : ℕ) → first_item (state_of v) c ≡ rows.first_control v.rows c
  unfolding state_of
  item_is c = at (rows.living_of v.rows c)
    where
      at : (o : Option rows.Living) → option_and_then (λ r. first r.items) (option_map row_seen o) ≡ option_and_then (λ (l : rows.Living). first l.controls) o
      at None = refl
      at (Some l) = refl

  pub item_row : (c : ℕ) → IsSome (first_item (state_of v) c) → rows.is_there v.rows c ≡ true
  unfolding state_of
  item_row c h = sym (row_living v.rows c) ∙ at (rows.living_of v.rows c) h
    where
      at : (o : Option rows.Living) → IsSome (option_and_then (λ r. first r.items) (option_map row_seen o)) → is_some o ≡ true
      at None h = absurd (cc)
      at (Some l) h = refl

  queue_some : (x : ℕ) (d : Dir) → IsSome ((state_of v).queues x d) → IsSome (queue_of v.slots x d)
  unfolding state_of
  queue_some x d h = at (leads_out v.numbers x d) (queue_of v.slots x d) h
    where
      at : (b : Bool) (o : Option Waiting) → IsSome (queue_in b o) → IsSome o
      at true o h = absurd (cc)
      at false None h = absurd (cc)
      at false (Some w) h = refl

  pub queue_there : (x : ℕ) (d : Dir) → IsSome ((state_of v).queues x d) → is_there v.slots x ≡ true
  queue_there x d h = sym (slot_living v.slots x d) ∙ queue_some x d h

  number_by : (b : Bool) (o : Option Waiting) → IsSome (option_and_then (λ q. first q.numbers) (queue_in b o)) → option_and_then (λ q. first q.numbers) (queue_in b o) ≡ option_and_then (λ (w : Waiting). first w.numbers) o
  number_by true o h = absurd (cc)
  number_by false None h = absurd (cc)
  number_by false (Some w) h = refl

  pub number_is : (x : ℕ) (d : Dir) → IsSome (first_number (state_of v) x d) → first_number (state_of v) x d ≡ option_and_then (λ (w : Waiting). first w.numbers) (queue_of v.slots x d)
  unfolding state_of
  number_is x d h = number_by (leads_out v.numbers x d) (queue_of v.slots x d) h

  pub number_there : (x : ℕ) (d : Dir) → IsSome (first_number (state_of v) x d) → is_there v.slots x ≡ true
  unfolding state_of
  number_there x d h = sym (slot_living v.slots x d) ∙ at (leads_out v.numbers x d) (queue_of v.slots x d) h
    where
      at : (b : Bool) (o : Option Waiting) → IsSome (option_and_then (λ q. first q.numbers) (queue_in b o)) → is_some o ≡ true
      at true o h = absurd (cc)
      at false None h = absurd (cc)
      at false (Some w) h = refl

  pub length_is : (x : ℕ) (d : Dir) → IsSome ((state_of v).queues x d)
      → option_map_or (λ (w : Waiting). length w.numbers) (queue_of v.slots x d) 0 ≡ option_map_or (λ q. length q.numbers) ((state_of v).queues x d) 0
  unfolding state_of
  length_is x d h = at (leads_out v.numbers x d) (queue_of v.slots x d) h
    where
      at : (b : Bool) (o : Option Waiting) → IsSome (queue_in b o) → option_map_or (λ (w : Waiting). length w.numbers) o 0 ≡ option_map_or (λ q. length q.numbers) (queue_in b o) 0
      at true o h = absurd (cc)
      at false None h = refl
      at false (Some w) h = refl

  pub linked : (x : ℕ) → IsSome ((state_of v).links x) → IsSome (link_of v.wires.links x)
  unfolding state_of
  linked x h = sym (mapped link_seen (link_of v.wires.links x)) ∙ h

  pub linked_there : (x : ℕ) → IsTied v → IsSome (link_of v.wires.links x) → is_there v.slots x ≡ true
  linked_there x t h =
      sym (slot_living v.slots x Plus) ∙ sym (mapped (λ (w : Waiting). w.aim) (queue_of v.slots x Plus))
      ∙ ap is_some (t.queues x Plus) ∙ mapped (aim_for v.numbers x Plus) (link_of v.wires.links x) ∙ h

  pub control_room : (c : ℕ) → 0 < control_spare v c → 0 < rows.spare_of v.rows c
  unfolding control_spare
  control_room c h = h

  pub queue_room : (x : ℕ) (d : Dir) → 0 < queue_spare v x d → 0 < Rattle.kom_queues.specs.Slots.spare_of v.slots x d
  unfolding queue_spare
  queue_room x d h = h
