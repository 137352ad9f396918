-- A change of one channel, and of the receivers of what waits in it.
use Rattle.std.proofs.Common.{◌≡◌, ℕ, Bool, true, false, List, Option, Some, None, refl, sym, ap, ◌∙◌, if◌then◌else◌}
use Rattle.std.specs.Prelude.{is_some, unwrap_or, ◌==◌}
use Rattle.std.specs.Option.{IsSome, option_map, option_and_then}
use Rattle.kom_base.specs.declared.numbers.Dir.{Dir}
use Rattle.kom_base.specs.declared.numbers.Dir.TheVariants.{Plus, Minus}
use Rattle.kom_base.specs.declared.numbers.Half.{Half}
use Rattle.kom_wiring.specs.declared.link.Link as wiring
use Rattle.kom_wiring.specs.Wires as wires
use Rattle.kom_wiring.specs.Wires.{Wires, link_of, link_at, free_link}
use Rattle.kom_queues.specs.declared.slot.Slot.{Slot}
use Rattle.kom_queues.specs.Waiting.{Waiting}
use Rattle.kom_queues.specs.Slots.{slot_of, queue_of, spare_of, aimed}
use Rattle.kom_numbers.specs.Numbering.{Numbering, leads_out}
use Rattle.kom_refine.specs.States.{Link}
use Rattle.kom_refine.specs.Points.{receiver_of}
use Rattle.kom_refine.specs.Steps as steps
use Rattle.kom_refine.specs.Steps.{IsRelinked, received_by}
use Rattle.kom_state.specs.Parts.{Parts, state_of, link_seen, queue_in, instance_spare, channel_spare, control_spare, has_row, queue_spare, has_queues}
use Rattle.kom_state.specs.Rooms.{KeepsRoom, KeepsControls, KeepsQueues}
use Rattle.kom_state.specs.Sound.{IsTied, aim_for}
use Rattle.kom_state.proofs.Keeping.{by_same, flip, itself}

abbrev pub with_links : Parts → Wires → List (ℕ × Slot) → Parts
with_links v ws ss = record { tree = v.tree; wires = ws; slots = ss; rows = v.rows; bodies = v.bodies; numbers = v.numbers }

-- a link as it is seen after a change of its hold or of an end
pub held_change : (held : Bool) (l : wiring.Link) → link_seen (wires.with_held l held) ≡ steps.with_held held (link_seen l)
held_change held l = refl

pub end_change : (d : Dir) (at : Option Half) (l : wiring.Link) → link_seen (wires.with_end l d at) ≡ steps.with_end d at (link_seen l)
end_change Plus at l = refl
end_change Minus at l = refl

-- a value that is there
there_is : {A : Type 0} (o : Option A) (a : A) → IsSome o → o ≡ Some (unwrap_or o a)
there_is None a h = absurd (cc)
there_is (Some b) a h = refl

module _ (v : Parts) (ws : Wires) (ss : List (ℕ × Slot)) (x : ℕ) (l : wiring.Link) where
  -- the new link, and what waits in the channel waits for whom it says
  pub record Relinks : Type 0 where
    pub was : IsSome (link_of v.wires.links x)
    pub links : (y : ℕ) → link_of ws.links y ≡ (if y == x then Some l else link_of v.wires.links y)
    pub queues : (y : ℕ) (e : Dir) → queue_of ss y e ≡ (if y == x then option_map (λ w. aimed w (aim_for v.numbers x e (link_at ws.links x))) (queue_of v.slots y e) else queue_of v.slots y e)

  new_link : Relinks → link_of ws.links x ≡ Some l
  new_link r = r.links x ∙ ap (λ b. if b then Some l else link_of v.wires.links x) (itself x)

  new_at : Relinks → link_at ws.links x ≡ l
  new_at r = ap (λ o. unwrap_or o free_link) (new_link r)

  new_queue : Relinks → (e : Dir) → queue_of ss x e ≡ option_map (λ w. aimed w (aim_for v.numbers x e l)) (queue_of v.slots x e)
  new_queue r e =
      r.queues x e
      ∙ ap (λ b. if b then option_map (λ w. aimed w (aim_for v.numbers x e (link_at ws.links x))) (queue_of v.slots x e) else queue_of v.slots x e) (itself x)
      ∙ ap (λ k. option_map (λ w. aimed w (aim_for v.numbers x e k)) (queue_of v.slots x e)) (new_at r)

  other_link : Relinks → (y : ℕ) → (x == y) ≡ false → link_of ws.links y ≡ link_of v.wires.links y
  other_link r y h = r.links y ∙ ap (λ b. if b then Some l else link_of v.wires.links y) (flip y x ∙ h)

  other_queue : Relinks → (y : ℕ) (e : Dir) → (x == y) ≡ false → queue_of ss y e ≡ queue_of v.slots y e
  other_queue r y e h = r.queues y e ∙ ap (λ b. if b then option_map (λ w. aimed w (aim_for v.numbers x e (link_at ws.links x))) (queue_of v.slots y e) else queue_of v.slots y e) (flip y x ∙ h)

  -- a direction that waited for somebody or nobody waits for another
  aimed_so : (a : Option ℕ) (o : Option Waiting) → IsSome o → option_map (λ (w : Waiting). w.aim) (option_map (λ w. aimed w a) o) ≡ Some a
  aimed_so a None h = absurd (cc)
  aimed_so a (Some w) h = refl

  mapped : {A B : Type 0} (f : A → B) (o : Option A) → is_some (option_map f o) ≡ is_some o
  mapped f None = refl
  mapped f (Some a) = refl

  pub stays_tied : Relinks → IsTied v → IsTied (with_links v ws ss)
  stays_tied r t = record {
    numbered = t.numbered;
    held_bodies = t.held_bodies;
    bodies = t.bodies;
    rows = t.rows;
    links = λ y. by_same x y
        (λ b z. is_some (link_of ws.links z) ≡ is_some (link_of v.wires.links z))
        (ap is_some (new_link r) ∙ sym r.was)
        (λ h. ap is_some (other_link r y h)) ∙ t.links y;
    queues = λ y e. by_same x y
        (λ b z. option_map (λ (w : Waiting). w.aim) (queue_of ss z e) ≡ option_map (aim_for v.numbers z e) (link_of ws.links z))
        (ap (option_map (λ (w : Waiting). w.aim)) (new_queue r e)
        ∙ aimed_so (aim_for v.numbers x e l) (queue_of v.slots x e)
        (sym (mapped (λ (w : Waiting). w.aim) (queue_of v.slots x e)) ∙ ap is_some (t.queues x e) ∙ mapped (aim_for v.numbers x e) (link_of v.wires.links x) ∙ r.was)
        ∙ ap (option_map (aim_for v.numbers x e)) (sym (new_link r)))
        (λ h. ap (option_map (λ (w : Waiting). w.aim)) (other_queue r y e h) ∙ t.queues y e ∙ ap (option_map (aim_for v.numbers y e)) (sym (other_link r y h)));
  }

  queue_relinked : (n : Numbering) (e : Dir) (o : Option Waiting)
      → queue_in (leads_out n x e) (option_map (λ w. aimed w (aim_for n x e l)) o) ≡ option_and_then (received_by e (Some (link_seen l))) (queue_in (leads_out n x e) o)
  queue_relinked n e o = at (leads_out n x e) o
    where
      at : (b : Bool) (o : Option Waiting) → queue_in b (option_map (λ w. aimed w (if b then None else receiver_of e (link_seen l))) o) ≡ option_and_then (received_by e (Some (link_seen l))) (queue_in b o)
      at true o = refl
      at false None = refl
      at false (Some w) = refl

  pub relinks : (change : Link → Link) → Relinks → option_map change (option_map link_seen (link_of v.wires.links x)) ≡ Some (link_seen l)
      → IsRelinked (λ y. y == x) change (state_of v) (state_of (with_links v ws ss))
  unfolding state_of
  relinks change r new = record {
    tree = record { nodes = refl; living = λ c. refl; child = λ c s. refl };
    links = λ y. by_same x y
        (λ b z. option_map link_seen (link_of ws.links z) ≡ (if b then option_map change (option_map link_seen (link_of v.wires.links z)) else option_map link_seen (link_of v.wires.links z)))
        (ap (option_map link_seen) (new_link r) ∙ sym new)
        (λ h. ap (option_map link_seen) (other_link r y h))
        ∙ ap (λ b. if b then option_map change (option_map link_seen (link_of v.wires.links y)) else option_map link_seen (link_of v.wires.links y)) (flip x y);
    queues = λ y e. by_same x y
        (λ b z. queue_in (leads_out v.numbers z e) (queue_of ss z e) ≡ (if b then option_and_then (received_by e (option_map link_seen (link_of ws.links z))) (queue_in (leads_out v.numbers z e) (queue_of v.slots z e)) else queue_in (leads_out v.numbers z e) (queue_of v.slots z e)))
        (ap (queue_in (leads_out v.numbers x e)) (new_queue r e) ∙ queue_relinked v.numbers e (queue_of v.slots x e)
        ∙ ap (λ k. option_and_then (received_by e (option_map link_seen k)) (queue_in (leads_out v.numbers x e) (queue_of v.slots x e))) (sym (new_link r)))
        (λ h. ap (queue_in (leads_out v.numbers y e)) (other_queue r y e h))
        ∙ ap (λ b. if b then option_and_then (received_by e (option_map link_seen (link_of ws.links y))) (queue_in (leads_out v.numbers y e) (queue_of v.slots y e)) else queue_in (leads_out v.numbers y e) (queue_of v.slots y e)) (flip x y);
    controls = λ c. refl;
    bodies = λ c. refl;
  }

  pub links_room : ws.spare ≡ v.wires.spare → ((y : ℕ) → is_some (slot_of ss y) ≡ is_some (slot_of v.slots y)) → KeepsRoom v (with_links v ws ss)
  unfolding instance_spare channel_spare has_row has_queues
  links_room e h = record { numbers = refl; instances = refl; channels = e; rows = λ c. refl; queues = h }

  pub links_controls : KeepsControls v (with_links v ws ss)
  unfolding control_spare
  links_controls c = refl

  pub links_queues : ((y : ℕ) (e : Dir) → spare_of ss y e ≡ spare_of v.slots y e) → KeepsQueues v (with_links v ws ss)
  unfolding queue_spare
  links_queues h = h

-- the changed link of a channel
pub link_changed : (o : Option wiring.Link) (f : wiring.Link → wiring.Link) (change : Link → Link) → IsSome o → ((l : wiring.Link) → link_seen (f l) ≡ change (link_seen l))
    → option_map change (option_map link_seen o) ≡ Some (link_seen (f (unwrap_or o free_link)))
link_changed None f change h same = absurd (cc)
link_changed (Some l) f change h same = ap Some (sym (same l))
