-- More room leaves the state as it is.
use Rattle.std.proofs.Common.{◌≡◌, ℕ, ◌≤◌, Bool, true, false, List, Option, Some, None, refl, ap, map, arith}
use Rattle.std.specs.Prelude.{is_some, Result, Ok, Err, OnOk}
use Rattle.std.specs.Option.{option_map}
use Rattle.kom_base.specs.declared.numbers.Dir.{Dir}
use Rattle.kom_base.specs.declared.numbers.EntryNo.{EntryNo}
use Rattle.kom_tree.specs.Forest as forest
use Rattle.kom_wiring.specs.Wires.{Wires, link_of}
use Rattle.kom_queues.specs.declared.slot.Slot.{Slot}
use Rattle.kom_queues.specs.Waiting.{Waiting}
use Rattle.kom_queues.specs.Slots.{slot_of, queue_of, spare_of, content_of}
use Rattle.kom_life.specs.declared.row.Row.{Row}
use Rattle.kom_life.specs.Rows as rows
use Rattle.kom_numbers.specs.Numbering.{Numbering, leads_out}
use Rattle.kom_state.specs.Shelves.{Shelf, body_at}
use Rattle.kom_state.specs.Parts.{Parts, state_of, queue_in, row_seen, node_seen, link_seen, instance_spare, channel_spare, control_spare, has_row, queue_spare, has_queues}
use Rattle.kom_state.specs.Rooms.{HasNoLess, IsSame}
use Rattle.kom_state.proofs.Keeping.{with_rows, with_slots}

abbrev pub with_instances : Parts → forest.Forest → Shelf → Numbering → Parts
with_instances v t bs n = record { tree = t; wires = v.wires; slots = v.slots; rows = v.rows; bodies = bs; numbers = n }

abbrev pub with_wires : Parts → Wires → Parts
with_wires v ws = record { tree = v.tree; wires = ws; slots = v.slots; rows = v.rows; bodies = v.bodies; numbers = v.numbers }

module _ (v : Parts) where
  pub instances_same : (t : forest.Forest) (bs : Shelf) (n : Numbering) → t.instances ≡ v.tree.instances → bs.bodies ≡ v.bodies.bodies → n.outs ≡ v.numbers.outs → IsSame (state_of v) (state_of (with_instances v t bs n))
  unfolding state_of
  instances_same t bs n e f g = record {
    tree = record { nodes = ap (map node_seen) e; living = λ c. ap (λ is. forest.is_alive is c) e; child = λ c s. ap (λ is. forest.occupant is c s) e };
    links = λ x. refl;
    queues = λ x d. ap (λ os. queue_in (leads_out (record { outs = os; counts = n.counts; spare = n.spare }) x d) (queue_of v.slots x d)) g;
    controls = λ c. refl;
    bodies = λ c. ap (λ b. body_at b c) f;
  }

  pub instances_less : (t : forest.Forest) (bs : Shelf) (n : Numbering) → v.tree.spare ≤ t.spare → v.bodies.spare ≤ bs.spare → v.numbers.spare ≤ n.spare → n.outs ≡ v.numbers.outs → n.counts ≡ v.numbers.counts → HasNoLess v (with_instances v t bs n)
  unfolding instance_spare channel_spare control_spare has_row queue_spare has_queues
  instances_less t bs n a b c e f = record {
    outs = e;
    counts = f;
    instances = omega (arith, a, b, c);
    channels = omega arith;
    controls = λ k. omega arith;
    rows = λ k h. h;
    numbers = λ x d. omega arith;
    queues = λ x h. h;
  }

  pub wires_same : (ws : Wires) → ws.links ≡ v.wires.links → IsSame (state_of v) (state_of (with_wires v ws))
  unfolding state_of
  wires_same ws e = record {
    tree = record { nodes = refl; living = λ c. refl; child = λ c s. refl };
    links = λ x. ap (λ ls. option_map link_seen (link_of ls x)) e;
    queues = λ x d. refl;
    controls = λ c. refl;
    bodies = λ c. refl;
  }

  pub wires_less : (ws : Wires) → v.wires.spare ≤ ws.spare → HasNoLess v (with_wires v ws)
  unfolding instance_spare channel_spare control_spare has_row queue_spare has_queues
  wires_less ws a = record {
    outs = refl;
    counts = refl;
    instances = omega arith;
    channels = a;
    controls = λ k. omega arith;
    rows = λ k h. h;
    numbers = λ x d. omega arith;
    queues = λ x h. h;
  }

  pub rows_same : (rs : List Row) → ((c : ℕ) → rows.living_of rs c ≡ rows.living_of v.rows c) → IsSame (state_of v) (state_of (with_rows v rs))
  unfolding state_of
  rows_same rs h = record {
    tree = record { nodes = refl; living = λ c. refl; child = λ c s. refl };
    links = λ x. refl;
    queues = λ x d. refl;
    controls = λ c. ap (option_map row_seen) (h c);
    bodies = λ c. refl;
  }

  pub rows_less : (rs : List Row) → ((c : ℕ) → rows.spare_of v.rows c ≤ rows.spare_of rs c) → ((c : ℕ) → rows.has_room v.rows c ≡ true → rows.has_room rs c ≡ true) → HasNoLess v (with_rows v rs)
  unfolding instance_spare channel_spare control_spare has_row queue_spare has_queues
  rows_less rs a b = record {
    outs = refl;
    counts = refl;
    instances = omega arith;
    channels = omega arith;
    controls = a;
    rows = b;
    numbers = λ x d. omega arith;
    queues = λ x h. h;
  }

  abbrev content : Option Waiting → Option (List EntryNo × Option ℕ)
  content o = option_map (λ w. (w.numbers, w.aim)) o

  seen_by : (b : Bool) (o p : Option Waiting) → content o ≡ content p → queue_in b o ≡ queue_in b p
  seen_by true o p e = refl
  seen_by false None None e = refl
  seen_by false None (Some q) e = absurd (cc)
  seen_by false (Some w) None e = absurd (cc)
  seen_by false (Some w) (Some q) e =
      let f : ◌≡◌ {A = List EntryNo × Option ℕ} (w.numbers, w.aim) (q.numbers, q.aim) = cc in
      ap (λ (z : List EntryNo × Option ℕ). Some (record { numbers = z.0; receiver = z.1 })) f

  pub slots_same : (ss : List (ℕ × Slot)) → ((x : ℕ) (d : Dir) → content_of ss x d ≡ content_of v.slots x d) → IsSame (state_of v) (state_of (with_slots v ss))
  unfolding state_of
  slots_same ss h = record {
    tree = record { nodes = refl; living = λ c. refl; child = λ c s. refl };
    links = λ x. refl;
    queues = λ x d. seen_by (leads_out v.numbers x d) (queue_of ss x d) (queue_of v.slots x d) (h x d);
    controls = λ c. refl;
    bodies = λ c. refl;
  }

  pub slots_less : (ss : List (ℕ × Slot)) → ((x : ℕ) (d : Dir) → spare_of v.slots x d ≤ spare_of ss x d) → ((x : ℕ) → is_some (slot_of v.slots x) ≡ true → is_some (slot_of ss x) ≡ true) → HasNoLess v (with_slots v ss)
  unfolding instance_spare channel_spare control_spare has_row queue_spare has_queues
  slots_less ss a b = record {
    outs = refl;
    counts = refl;
    instances = omega arith;
    channels = omega arith;
    controls = λ k. omega arith;
    rows = λ k h. h;
    numbers = a;
    queues = b;
  }

pub on_ok : {T E : Type 0} {P Q : Type 0} (r : Result T E) → OnOk r P → (P → Q) → OnOk r Q
on_ok (Ok x) p f = f p
on_ok (Err e) p f = tt
