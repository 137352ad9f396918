-- A change of one of the parts leaves the rest of the state, and of the room.
use Rattle.std.proofs.Common.{◌≡◌, ℕ, ◌-◌, Bool, true, false, ◌&&◌, List, [], ◌∷◌, Option, Some, None, refl, sym, ap, ◌∙◌, if◌then◌else◌, inl, inr, subst, min}
use Rattle.std.specs.Prelude.{◌==◌}
use Rattle.std.specs.Option.{option_map, option_and_then}
use Rattle.std.proofs.lemmas.List.{append-nil}
use Rattle.std.proofs.lemmas.Bool.Decides.{eqb_tells}
use Rattle.kom_base.specs.declared.numbers.Dir.{Dir}
use Rattle.kom_base.specs.declared.numbers.EntryNo.{EntryNo}
use Rattle.kom_lang.specs.declared.body.Body.{Body}
use Rattle.kom_record.specs.declared.item.Control.{Control as ControlItem}
use Rattle.kom_record.specs.declared.item.Item.TheVariants.{Control}
use Rattle.kom_record.specs.declared.entry.Outcome.{Outcome}
use Rattle.kom_record.specs.Reaction.{body_after}
use Rattle.kom_queues.specs.declared.slot.Slot.{Slot}
use Rattle.kom_queues.specs.Waiting.{Waiting, popped}
use Rattle.kom_queues.specs.Slots.{slot_of, queue_of, spare_of, side, with_side, pushed}
use Rattle.kom_life.specs.declared.row.Row.{Row}
use Rattle.kom_life.specs.Rows as rows
use Rattle.kom_life.specs.Rows.{Living, living_of}
use Rattle.kom_numbers.specs.Numbering.{leads_out}
use Rattle.kom_refine.specs.States.{Queue}
use Rattle.kom_refine.specs.Steps.{IsTaken, ArePut, HaveCome, IsEnded, with_items, with_numbers, without_item, without_first, flagged}
use Rattle.kom_state.specs.Shelves.{Shelf, body_at}
use Rattle.kom_state.specs.Parts.{Parts, row_seen, queue_seen, queue_in, state_of, instance_spare, channel_spare, control_spare, has_row, queue_spare, has_queues}
use Rattle.kom_state.specs.Rooms.{KeepsRoom, KeepsControls, KeepsQueues}
use Rattle.kom_state.specs.Steps.{to_one, into_one, IsTakenFrom, UsesControl, UsesQueue}
use Rattle.kom_state.proofs.Aiming.{here, by_number, queue_change, slots_kept, spare_change}

abbrev pub with_rows : Parts → List Row → Parts
with_rows v rs = record { tree = v.tree; wires = v.wires; slots = v.slots; rows = rs; bodies = v.bodies; numbers = v.numbers }

abbrev pub with_slots : Parts → List (ℕ × Slot) → Parts
with_slots v ss = record { tree = v.tree; wires = v.wires; slots = ss; rows = v.rows; bodies = v.bodies; numbers = v.numbers }

abbrev pub with_bodies : Parts → List Row → Shelf → Parts
with_bodies v rs bs = record { tree = v.tree; wires = v.wires; slots = v.slots; rows = rs; bodies = bs; numbers = v.numbers }

abbrev rows_by : (Living → Living) → ℕ → List Row → List Row → Type 0
rows_by f c old new = (y : ℕ) → living_of new y ≡ (if y == c then option_map f (living_of old c) else living_of old y)

row_same : (o : Option Living) → option_map row_seen o ≡ option_map (with_items []) (option_map row_seen o)
row_same None = refl
row_same (Some l) = ap (λ i. Some (record { items = i; active = l.active; catches = l.catches })) (sym (append-nil l.controls))

row_put : (item : ControlItem) (o : Option Living) → option_map row_seen (option_map (rows.with_control item) o) ≡ option_map (with_items (item ∷ [])) (option_map row_seen o)
row_put item None = refl
row_put item (Some l) = refl

row_taken : (o : Option Living) → option_map row_seen (option_map rows.without_first o) ≡ option_map without_item (option_map row_seen o)
row_taken None = refl
row_taken (Some l) = refl

pub flip : (a b : ℕ) → (a == b) ≡ (b == a)
flip a b = elim (eqb_tells a b) [
  | inl t ↦ ap (λ z. z == b) t.1 ∙ ap (λ z. b == z) (sym t.1)
  | inr f ↦ elim (eqb_tells b a) [ inl t ↦ absurd (f.1 (sym t.1)) | inr g ↦ f.0 ∙ sym g.0 ]
]

pub itself : (a : ℕ) → (a == a) ≡ true
itself a = elim (eqb_tells a a) [ inl t ↦ t.0 | inr f ↦ absurd (f.1 refl) ]

-- by whether one number is another
pub by_same : (c d : ℕ) (P : Bool → ℕ → Type 0) → P true c → ((c == d) ≡ false → P false d) → P (c == d) d
by_same c d P same other = elim (eqb_tells c d) [
  | inl t ↦ subst (λ (k : ℕ). P (c == d) k) t.1 (subst (λ (z : Bool). P z c) (sym t.0) same)
  | inr f ↦ subst (λ (z : Bool). P z d) (sym f.0) (other f.0)
]

module _ (v : Parts) (rs : List Row) where
  pub rows_room : ((y : ℕ) → rows.has_room rs y ≡ rows.has_room v.rows y) → KeepsRoom v (with_rows v rs)
  unfolding instance_spare channel_spare has_row has_queues
  rows_room h = record { numbers = refl; instances = refl; channels = refl; rows = h; queues = λ x. refl }

  pub rows_queues : KeepsQueues v (with_rows v rs)
  unfolding queue_spare
  rows_queues x d = refl

  pub rows_controls : ((y : ℕ) → rows.spare_of rs y ≡ rows.spare_of v.rows y) → KeepsControls v (with_rows v rs)
  unfolding control_spare
  rows_controls h = h

  pub uses_control : (c : ℕ) → ((y : ℕ) → rows.spare_of rs y ≡ (if y == c then rows.spare_of v.rows c - 1 else rows.spare_of v.rows y)) → UsesControl c v (with_rows v rs)
  unfolding control_spare
  uses_control c h d = h d ∙ by_number c d (λ b. (if b then rows.spare_of v.rows c - 1 else rows.spare_of v.rows d) ≡ (if b then rows.spare_of v.rows d - 1 else rows.spare_of v.rows d)) (λ t. ap (λ z. rows.spare_of v.rows z - 1) (sym t)) refl

  pub is_put : (c : ℕ) (item : ControlItem) → rows_by (rows.with_control item) c v.rows rs → ArePut (to_one c item) (state_of v) (state_of (with_rows v rs))
  unfolding state_of
  is_put c item each = record {
    tree = record { nodes = refl; living = λ d. refl; child = λ d s. refl };
    links = λ x. refl;
    queues = λ x d. refl;
    controls = λ d. ap (option_map row_seen) (each d)
        ∙ by_number c d (λ b. option_map row_seen (if b then option_map (rows.with_control item) (living_of v.rows c) else living_of v.rows d) ≡ option_map (with_items (if b then item ∷ [] else [])) (option_map row_seen (living_of v.rows d)))
        (λ t. row_put item (living_of v.rows c) ∙ ap (λ z. option_map (with_items (item ∷ [])) (option_map row_seen (living_of v.rows z))) (sym t))
        (row_same (living_of v.rows d));
    bodies = λ d. refl;
  }

  pub is_taken : (c : ℕ) (item : ControlItem) → rows_by rows.without_first c v.rows rs → IsTaken c (Control item) (state_of v) (state_of (with_rows v rs))
  unfolding state_of
  is_taken c item each = record {
    tree = record { nodes = refl; living = λ d. refl; child = λ d s. refl };
    links = λ x. refl;
    queues = λ x d. refl;
    controls = λ d. ap (option_map row_seen) (each d)
        ∙ by_number c d (λ b. option_map row_seen (if b then option_map rows.without_first (living_of v.rows c) else living_of v.rows d) ≡ (if b then option_map without_item (option_map row_seen (living_of v.rows d)) else option_map row_seen (living_of v.rows d)))
        (λ t. row_taken (living_of v.rows c) ∙ ap (λ z. option_map without_item (option_map row_seen (living_of v.rows z))) (sym t))
        refl
        ∙ ap (λ b. if b then option_map without_item (option_map row_seen (living_of v.rows d)) else option_map row_seen (living_of v.rows d)) (flip d c);
    bodies = λ d. refl;
  }

pop_seen : (ns : List EntryNo) (a : Option ℕ) (k : ℕ) → queue_seen (popped (record { numbers = ns; aim = a; spare = k })) ≡ without_first (record { numbers = ns; receiver = a })
pop_seen [] a k = refl
pop_seen (n ∷ ns) a k = refl

pop_spare : (ns : List EntryNo) (a : Option ℕ) (k : ℕ) → (popped (record { numbers = ns; aim = a; spare = k })).spare ≡ k
pop_spare [] a k = refl
pop_spare (n ∷ ns) a k = refl

pop_aim : (ns : List EntryNo) (a : Option ℕ) (k : ℕ) → (popped (record { numbers = ns; aim = a; spare = k })).aim ≡ a
pop_aim [] a k = refl
pop_aim (n ∷ ns) a k = refl

pub popped_seen : (w : Waiting) → queue_seen (popped w) ≡ without_first (queue_seen w)
popped_seen w = pop_seen w.numbers w.aim w.spare

pub popped_spare : (w : Waiting) → (popped w).spare ≡ w.spare
popped_spare w = pop_spare w.numbers w.aim w.spare

pub popped_aim : (w : Waiting) → (popped w).aim ≡ w.aim
popped_aim w = pop_aim w.numbers w.aim w.spare

module _ (v : Parts) (ss : List (ℕ × Slot)) (x : ℕ) (d : Dir) where
  abbrev pub slots_by : (Waiting → Waiting) → Type 0
  slots_by f = (y : ℕ) → slot_of ss y ≡ (if y == x then option_map (λ s. with_side s d (f (side s d))) (slot_of v.slots x) else slot_of v.slots y)

  pub slots_room : (f : Waiting → Waiting) → slots_by f → KeepsRoom v (with_slots v ss)
  unfolding instance_spare channel_spare has_row has_queues
  slots_room f h = record { numbers = refl; instances = refl; channels = refl; rows = λ c. refl; queues = slots_kept v.slots ss x d f h }

  pub slots_controls : KeepsControls v (with_slots v ss)
  unfolding control_spare
  slots_controls c = refl

  same_number : (b : Bool) (k : ℕ) → (if b then k else k) ≡ k
  same_number true k = refl
  same_number false k = refl

  pub slots_queues : (f : Waiting → Waiting) → ((w : Waiting) → (f w).spare ≡ w.spare) → slots_by f → KeepsQueues v (with_slots v ss)
  unfolding queue_spare
  slots_queues f k h y e = spare_change v.slots ss x d f (λ n. n) k refl h y e ∙ same_number (here x d y e) (spare_of v.slots y e)

  pub uses_queue : (f : Waiting → Waiting) → ((w : Waiting) → (f w).spare ≡ w.spare - 1) → slots_by f → UsesQueue x d v (with_slots v ss)
  unfolding queue_spare
  uses_queue f k h y e = spare_change v.slots ss x d f (λ n. n - 1) k refl h y e

  -- a queue as it is seen after a change of one direction
  queue_seen_by : (out b : Bool) (f : Waiting → Waiting) (g : Queue → Queue) → ((w : Waiting) → queue_seen (f w) ≡ g (queue_seen w)) → (o : Option Waiting)
      → queue_in out (if b then option_map f o else o) ≡ (if b then option_map g (queue_in out o) else queue_in out o)
  queue_seen_by true true f g h o = refl
  queue_seen_by true false f g h o = refl
  queue_seen_by false true f g h None = refl
  queue_seen_by false true f g h (Some w) = ap Some (h w)
  queue_seen_by false false f g h o = refl

  pub queue_step : (f : Waiting → Waiting) (g : Queue → Queue) → ((w : Waiting) → queue_seen (f w) ≡ g (queue_seen w)) → slots_by f → (y : ℕ) (e : Dir)
      → queue_in (leads_out v.numbers y e) (queue_of ss y e) ≡ (if here x d y e then option_map g (queue_in (leads_out v.numbers y e) (queue_of v.slots y e)) else queue_in (leads_out v.numbers y e) (queue_of v.slots y e))
  queue_step f g k h y e = ap (queue_in (leads_out v.numbers y e)) (queue_change v.slots ss x d f h y e) ∙ queue_seen_by (leads_out v.numbers y e) (here x d y e) f g k (queue_of v.slots y e)

  in_one : (b : Bool) (n : EntryNo) (q : Option Queue) → (if b then option_map (with_numbers (n ∷ [])) q else q) ≡ option_map (with_numbers (if b then n ∷ [] else [])) q
  in_one true n q = refl
  in_one false n None = refl
  in_one false n (Some q) = ap (λ ns. Some (record { numbers = ns; receiver = q.receiver })) (sym (append-nil q.numbers))

  pub has_come : (n : EntryNo) → slots_by (λ w. pushed w n) → HaveCome (into_one x d n) (state_of v) (state_of (with_slots v ss))
  unfolding state_of
  has_come n h = record {
    tree = record { nodes = refl; living = λ d. refl; child = λ d s. refl };
    links = λ x. refl;
    queues = λ y e. queue_step (λ w. pushed w n) (with_numbers (n ∷ [])) (λ w. refl) h y e ∙ in_one (here x d y e) n (queue_in (leads_out v.numbers y e) (queue_of v.slots y e));
    controls = λ c. refl;
    bodies = λ c. refl;
  }

  pub is_taken_from : slots_by popped → IsTakenFrom x d (state_of v) (state_of (with_slots v ss))
  unfolding state_of
  is_taken_from h c item no_control comes = record {
    tree = record { nodes = refl; living = λ d. refl; child = λ d s. refl };
    links = λ x. refl;
    queues = λ y e. queue_step popped without_first popped_seen h y e ∙ ap (λ b. if b then option_map without_first (queue_in (leads_out v.numbers y e) (queue_of v.slots y e)) else queue_in (leads_out v.numbers y e) (queue_of v.slots y e)) (sym (comes y e));
    controls = λ k. sym (ap (λ b. if b && c == k then option_map without_item (option_map row_seen (living_of v.rows k)) else option_map row_seen (living_of v.rows k)) no_control);
    bodies = λ c. refl;
  }

-- ---- bodies

module _ (v : Parts) (rs : List Row) (bs : Shelf) where
  pub bodies_room : ((y : ℕ) → rows.has_room rs y ≡ rows.has_room v.rows y) → bs.spare ≡ v.bodies.spare → KeepsRoom v (with_bodies v rs bs)
  unfolding instance_spare channel_spare has_row has_queues
  bodies_room h e = record { numbers = refl; instances = ap (λ k. min v.tree.spare (min k v.numbers.spare)) e; channels = refl; rows = h; queues = λ x. refl }

  pub bodies_queues : KeepsQueues v (with_bodies v rs bs)
  unfolding queue_spare
  bodies_queues x d = refl

  pub bodies_controls : ((y : ℕ) → rows.spare_of rs y ≡ rows.spare_of v.rows y) → KeepsControls v (with_bodies v rs bs)
  unfolding control_spare
  bodies_controls h = h

  -- the row of a component whose body is known
  flag_row : (catching : Body → Bool) (o : Option Living) (b : Body) → option_map row_seen (option_map (rows.with_flags b.active (catching b)) o) ≡ flagged catching (option_map row_seen o) b
  flag_row catching None b = refl
  flag_row catching (Some l) b = refl

  -- a component has the body that an outcome leaves, and the flags of that one
  pub is_ended : (catching : Body → Bool) (c : ℕ) (o : Outcome) (b : Body)
      → body_at bs.bodies c ≡ Some b → option_map (λ a. body_after a o) (body_at v.bodies.bodies c) ≡ Some b
      → rows_by (rows.with_flags b.active (catching b)) c v.rows rs
      → ((d : ℕ) → (d == c) ≡ false → body_at bs.bodies d ≡ body_at v.bodies.bodies d)
      → IsEnded catching c o (state_of v) (state_of (with_bodies v rs bs))
  unfolding state_of
  is_ended catching c o b here after each others = record {
    tree = record { nodes = refl; living = λ d. refl; child = λ d s. refl };
    links = λ x. refl;
    queues = λ x d. refl;
    controls = λ d. by_same c d
        (λ t k. option_map row_seen (living_of rs k) ≡ (if t then option_and_then (flagged catching (option_map row_seen (living_of v.rows k))) (body_at bs.bodies k) else option_map row_seen (living_of v.rows k)))
        (ap (option_map row_seen) (each c ∙ ap (λ z. if z then option_map (rows.with_flags b.active (catching b)) (living_of v.rows c) else living_of v.rows c) (itself c))
        ∙ flag_row catching (living_of v.rows c) b
        ∙ sym (ap (option_and_then (flagged catching (option_map row_seen (living_of v.rows c)))) here))
        (λ f. ap (option_map row_seen) (each d ∙ ap (λ z. if z then option_map (rows.with_flags b.active (catching b)) (living_of v.rows c) else living_of v.rows d) (flip d c ∙ f)));
    bodies = λ d. by_same c d
        (λ t k. body_at bs.bodies k ≡ (if t then option_map {T = Body} {U = Body} (λ a. body_after a o) (body_at v.bodies.bodies k) else body_at v.bodies.bodies k))
        (here ∙ sym after)
        (λ f. others d (flip d c ∙ f));
  }
