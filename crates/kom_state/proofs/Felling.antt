-- What lies in a slot ends one by one, until nobody lives there.
use Rattle.std.proofs.Common.{◌≡◌, ◌≢◌, ℕ, Bool, true, false, not, ◌&&◌, ◌||◌, List, [], ◌∷◌, length, Option, Some, None, refl, sym, ap, ◌∙◌, inl, inr, arith, if◌then◌else◌, min, ◌-◌}
use Rattle.std.specs.Prelude.{slice_get, ◌==◌, is_some, nat_lt}
use Rattle.std.specs.List.{list_any}
use Rattle.std.specs.Option.{option_map, option_map_or}
use Rattle.std.proofs.lemmas.Bool.Decides.{eqb_tells}
use Rattle.std.proofs.lemmas.Option.{slice_get-map}
use Rattle.kom_base.specs.declared.numbers.Dir.{Dir}
use Rattle.kom_record.specs.Channels.{Environment, Own}
use Rattle.kom_tree.specs.Forest.{Instance, is_alive, is_slot, occupant, IsGrown}
use Rattle.kom_wiring.specs.Wires.{link_of}
use Rattle.kom_queues.specs.declared.slot.Slot.{Slot}
use Rattle.kom_queues.specs.Slots.{queue_of, side}
use Rattle.kom_queues.specs.Waiting.{Waiting}
use Rattle.kom_life.specs.Rows.{living_of}
use Rattle.kom_numbers.specs.Numbering.{Numbering, wire_among, wire_at, channel_at, is_of, leads_out}
use Rattle.kom_refine.specs.States.{Node}
use Rattle.kom_refine.specs.Steps.{IsRemoved, is_below}
use Rattle.kom_state.specs.Shelves.{body_at}
use Rattle.kom_state.specs.Parts.{Parts, state_of, node_seen, link_seen, row_seen, queue_in, instance_spare, channel_spare, control_spare, has_row, queue_spare, has_queues}
use Rattle.kom_state.specs.Rooms.{FreesRoom}
use Rattle.kom_state.specs.Sound.{IsTied, lives, aim_for}
use Rattle.kom_state.specs.Removals.{is_living, HasOnlyLiving, IsWithout, IsCut, IsDeepest, lies_in, dies_in, dies_with}
use Rattle.kom_state.proofs.Keeping.{flip}
use Rattle.kom_state.proofs.Lines.{same_slot, lies_some, occupant_lies}
use Rattle.kom_state.proofs.Conditions.{mapped, row_living}
use Rattle.kom_state.proofs.Removing.{guarded, nothing, lived}

twice : {A : Type 0} (b c : Bool) (o : Option A) → (b ≡ true → c ≡ true) → (if b then (if c then o else None) else None) ≡ (if b then o else None)
twice true c o h = ap (λ z. if z then o else None) (h refl)
twice false c o h = refl

queue_lives : (v : Parts) → IsTied v → (x : ℕ) (d : Dir) → is_some (queue_of v.slots x d) ≡ is_living v x
queue_lives v t x d = sym (mapped (λ (w : Waiting). w.aim) (queue_of v.slots x d)) ∙ ap is_some (t.queues x d) ∙ mapped (aim_for v.numbers x d) (link_of v.wires.links x) ∙ t.links x

-- before anybody has ended
pub whole : (v : Parts) (c slot : ℕ) → IsTied v → IsCut c slot v v
whole v c slot t = record {
  only = record {
    numbers = refl;
    nodes = refl;
    lines = λ e. refl;
    fewer = λ e h. h;
    links = λ x. guarded (is_living v x) (link_of v.wires.links x) (t.links x);
    queues = λ x d. guarded (is_living v x) (queue_of v.slots x d) (queue_lives v t x d);
    rows = λ e. guarded (is_alive v.tree.instances e) (living_of v.rows e) (row_living v.rows e ∙ t.rows e);
    bodies = λ e. guarded (is_alive v.tree.instances e) (body_at v.bodies.bodies e) (t.bodies e);
    instances = refl;
    shelf = refl;
    long = refl;
    channels = omega arith;
    has_rows = λ e. refl;
  };
  others = λ e h k. h;
  occupants = λ p s h k n. refl;
  controls = λ e h. refl;
  slots = λ x h. refl;
}

module _ (u v w : Parts) (c slot d : ℕ) (k : IsCut c slot u v) (g : IsGrown v.tree.instances) (deep : IsDeepest v.tree.instances c slot (Some d)) (o : IsWithout d v w) where
  -- d lies in the slot, as at first
  lies : lies_in u.tree.instances c slot d ≡ true
  lies = ap (list_any (is_slot c slot)) (sym (k.only.lines d)) ∙ deep.1

  other : (e : ℕ) → lies_in u.tree.instances c slot e ≡ false → e ≢ d
  other e h same = let z = ap (lies_in u.tree.instances c slot) same ∙ lies in cc

  both : HasOnlyLiving u w
  both = record {
    numbers = o.only.numbers ∙ k.only.numbers;
    nodes = o.only.nodes ∙ k.only.nodes;
    lines = λ e. o.only.lines e ∙ k.only.lines e;
    fewer = λ e h. k.only.fewer e (o.only.fewer e h);
    links = λ x. o.only.links x ∙ ap (λ l. if is_living w x then l else None) (k.only.links x) ∙ twice (is_living w x) (is_living v x) (link_of u.wires.links x) (lived v w o.only x);
    queues = λ x e. o.only.queues x e ∙ ap (λ l. if is_living w x then l else None) (k.only.queues x e) ∙ twice (is_living w x) (is_living v x) (queue_of u.slots x e) (lived v w o.only x);
    rows = λ e. o.only.rows e ∙ ap (λ l. if is_alive w.tree.instances e then l else None) (k.only.rows e) ∙ twice (is_alive w.tree.instances e) (is_alive v.tree.instances e) (living_of u.rows e) (o.only.fewer e);
    bodies = λ e. o.only.bodies e ∙ ap (λ l. if is_alive w.tree.instances e then l else None) (k.only.bodies e) ∙ twice (is_alive w.tree.instances e) (is_alive v.tree.instances e) (body_at u.bodies.bodies e) (o.only.fewer e);
    instances = o.only.instances ∙ k.only.instances;
    shelf = o.only.shelf ∙ k.only.shelf;
    long = o.only.long ∙ k.only.long;
    channels = omega (arith, o.only.channels, k.only.channels);
    has_rows = λ e. o.only.has_rows e ∙ k.only.has_rows e;
  }

  lives_on : (e : ℕ) → is_alive v.tree.instances e ≡ true → e ≢ d → is_alive w.tree.instances e ≡ true
  lives_on e h n = elim (eqb_tells e d) [
    | inl t ↦ absurd (n t.1)
    | inr f ↦ o.living e ∙ ap (λ b. b && not (e == d)) h ∙ ap not f.0
  ]

  not_here : (p s : ℕ) → lies_in u.tree.instances c slot p ≡ false → is_slot c slot (p, s) ≡ false → occupant v.tree.instances p s ≢ Some d
  not_here p s h n e =
      let up = (g.sitting p s d e).1 in
      let z : lies_in v.tree.instances c slot d ≡ false = lies_some v.tree.instances g c slot d (p, s) up ∙ ap (λ b. b || lies_in v.tree.instances c slot p) n ∙ ap (list_any (is_slot c slot)) (k.only.lines p) ∙ h in
      let y = deep.1 in cc

  not_of : (x : ℕ) → dies_in u c slot x ≡ false → is_of v.numbers d x ≡ false
  not_of x h = ap (λ n. is_of n d x) k.only.numbers ∙ at (wire_at u.numbers x) h
    where
      at : (q : Option (ℕ × ℕ)) → option_map_or (λ (q : ℕ × ℕ). lies_in u.tree.instances c slot q.0) q false ≡ false → option_map_or (λ (q : ℕ × ℕ). d == q.0) q false ≡ false
      at None h = refl
      at (Some q) h = elim (eqb_tells d q.0) [ inl t ↦ absurd (let z = ap (lies_in u.tree.instances c slot) (sym t.1) ∙ lies in cc) | inr f ↦ f.0 ]

  -- one more has ended
  pub one_less : IsCut c slot u w
  one_less = record {
    only = both;
    others = λ e h n. lives_on e (k.others e h n) (other e n);
    occupants = λ p s h n m. o.occupants p s h (not_here p s n m) ∙ k.occupants p s (o.only.fewer p h) n m;
    controls = λ e h. o.controls e (other e h) ∙ k.controls e h;
    slots = λ x h. o.slots x (not_of x h) ∙ k.slots x h;
  }

-- ---- nobody lives in the slot any more

-- whether a channel lives where some instances have ended
module _ (n : Numbering) (is js : List Instance) (E : ℕ → Bool) (one : (e : ℕ) → is_alive js e ≡ (is_alive is e && not (E e))) where
  chan_by : (o : Option (ℕ × ℕ)) → option_map_or (lives js) (option_map (λ (q : ℕ × ℕ). Own q.0 q.1) o) false ≡ (option_map_or (lives is) (option_map (λ (q : ℕ × ℕ). Own q.0 q.1) o) false && not (option_map_or (λ (q : ℕ × ℕ). E q.0) o false))
  chan_by None = refl
  chan_by (Some q) = one q.0

  none_before : (x : ℕ) → nat_lt x (length n.outs) ≡ true → option_map_or (λ (q : ℕ × ℕ). E q.0) (wire_at n x) false ≡ false
  none_before x h = ap (λ b. option_map_or (λ (q : ℕ × ℕ). E q.0) (if b then None else wire_among 0 n.counts (x - length n.outs)) false) h

  chans_ended : (x : ℕ) → option_map_or (lives js) (channel_at n x) false ≡ (option_map_or (lives is) (channel_at n x) false && not (option_map_or (λ (q : ℕ × ℕ). E q.0) (wire_at n x) false))
  chans_ended x = at (nat_lt x (length n.outs)) refl
    where
      at : (b : Bool) → nat_lt x (length n.outs) ≡ b → option_map_or (lives js) (channel_at n x) false ≡ (option_map_or (lives is) (channel_at n x) false && not (option_map_or (λ (q : ℕ × ℕ). E q.0) (wire_at n x) false))
      at true h =
          ap (λ b. option_map_or (lives js) (if b then Some (Environment x) else option_map (λ (q : ℕ × ℕ). Own q.0 q.1) (wire_at n x)) false) h
          ∙ sym (ap (λ b. option_map_or (lives is) (if b then Some (Environment x) else option_map (λ (q : ℕ × ℕ). Own q.0 q.1) (wire_at n x)) false && not (option_map_or (λ (q : ℕ × ℕ). E q.0) (wire_at n x) false)) h
          ∙ ap not (none_before x h))
      at false h =
          ap (λ b. option_map_or (lives js) (if b then Some (Environment x) else option_map (λ (q : ℕ × ℕ). Own q.0 q.1) (wire_at n x)) false) h
          ∙ chan_by (wire_at n x)
          ∙ sym (ap (λ b. option_map_or (lives is) (if b then Some (Environment x) else option_map (λ (q : ℕ × ℕ). Own q.0 q.1) (wire_at n x)) false && not (option_map_or (λ (q : ℕ × ℕ). E q.0) (wire_at n x) false)) h)

-- who lies in a slot, as the state has it
lies_seen : (c slot : ℕ) (line : List (ℕ × ℕ)) → list_any (λ q. c == q.0 && slot == q.1) line ≡ list_any (is_slot c slot) line
lies_seen c slot [] = refl
lies_seen c slot (q ∷ line) =
    ap (λ b. b || list_any (λ q. c == q.0 && slot == q.1) line) (ap (λ b. b && slot == q.1) (flip c q.0) ∙ ap (λ b. q.0 == c && b) (flip slot q.1))
    ∙ ap (λ b. is_slot c slot q || b) (lies_seen c slot line)

pub below_is : (v : Parts) (c slot d : ℕ) → is_below (state_of v) c slot d ≡ lies_in v.tree.instances c slot d
unfolding state_of
below_is v c slot d =
    ap (λ o. option_map_or (λ (n : Node). list_any (λ q. c == q.0 && slot == q.1) n.ancestry) o false) (slice_get-map node_seen v.tree.instances d) ∙ at (slice_get v.tree.instances d)
  where
    at : (o : Option Instance) → option_map_or (λ (n : Node). list_any (λ q. c == q.0 && slot == q.1) n.ancestry) (option_map node_seen o) false ≡ list_any (is_slot c slot) (option_map_or (λ (i : Instance). i.line) o [])
    at None = refl
    at (Some i) = lies_seen c slot i.line

pub dies_is : (v : Parts) (c slot x : ℕ) → dies_with v c slot x ≡ dies_in v c slot x
dies_is v c slot x = at (wire_at v.numbers x)
  where
    at : (o : Option (ℕ × ℕ)) → option_map_or (λ (q : ℕ × ℕ). is_below (state_of v) c slot q.0) o false ≡ option_map_or (λ (q : ℕ × ℕ). lies_in v.tree.instances c slot q.0) o false
    at None = refl
    at (Some q) = below_is v c slot q.0

-- what is there only where the one test holds, and gone where the other does
split : {A : Type 0} (b c d : Bool) (o : Option A) → is_some o ≡ c → b ≡ (c && not d) → (if b then o else None) ≡ (if d then None else o)
split b true true o h k = ap (λ z. if z then o else None) k
split b true false o h k = ap (λ z. if z then o else None) k
split b false true o h k = ap (λ z. if z then o else None) k
split b false false o h k = ap (λ z. if z then o else None) k ∙ sym (nothing o h)

mapped_if : {A B : Type 0} (f : A → B) (d : Bool) (o : Option A) → option_map f (if d then None else o) ≡ (if d then None else option_map f o)
mapped_if f true o = refl
mapped_if f false o = refl

queue_if : (out d : Bool) (o : Option Waiting) → queue_in out (if d then None else o) ≡ (if d then None else queue_in out o)
queue_if true true o = refl
queue_if true false o = refl
queue_if false true o = refl
queue_if false false o = refl

module _ (u w : Parts) (c slot : ℕ) (t : IsTied u) (k : IsCut c slot u w) (g : IsGrown w.tree.instances) (empty : IsDeepest w.tree.instances c slot None) where
  gone : (d : ℕ) → lies_in u.tree.instances c slot d ≡ true → is_alive w.tree.instances d ≡ false
  gone d h = at (is_alive w.tree.instances d) refl
    where
      at : (b : Bool) → is_alive w.tree.instances d ≡ b → is_alive w.tree.instances d ≡ false
      at true e = absurd (let z = sym (ap (list_any (is_slot c slot)) (k.only.lines d)) ∙ empty d e in cc)
      at false e = e

  stays : (d : ℕ) → lies_in u.tree.instances c slot d ≡ false → is_alive w.tree.instances d ≡ is_alive u.tree.instances d
  stays d h = at (is_alive u.tree.instances d) refl (is_alive w.tree.instances d) refl
    where
      at : (a : Bool) → is_alive u.tree.instances d ≡ a → (b : Bool) → is_alive w.tree.instances d ≡ b → is_alive w.tree.instances d ≡ is_alive u.tree.instances d
      at true e b f = k.others d e h ∙ sym e
      at false e true f = absurd (let z = k.only.fewer d f in cc)
      at false e false f = f ∙ sym e

  left : (d : ℕ) → is_alive w.tree.instances d ≡ (is_alive u.tree.instances d && not (is_below (state_of u) c slot d))
  left d = at (lies_in u.tree.instances c slot d) refl ∙ ap (λ b. is_alive u.tree.instances d && not b) (sym (below_is u c slot d))
    where
      none : (b : Bool) → (b && false) ≡ false
      none true = refl
      none false = refl

      all : (b : Bool) → b ≡ (b && true)
      all true = refl
      all false = refl

      at : (b : Bool) → lies_in u.tree.instances c slot d ≡ b → is_alive w.tree.instances d ≡ (is_alive u.tree.instances d && not (lies_in u.tree.instances c slot d))
      at true h = gone d h ∙ sym (ap (λ b. is_alive u.tree.instances d && not b) h ∙ none (is_alive u.tree.instances d))
      at false h = stays d h ∙ all (is_alive u.tree.instances d) ∙ sym (ap (λ b. is_alive u.tree.instances d && not b) h)

  chans : (x : ℕ) → is_living w x ≡ (is_living u x && not (dies_with u c slot x))
  chans x = ap (λ n. option_map_or (lives w.tree.instances) (channel_at n x) false) k.only.numbers ∙ chans_ended u.numbers u.tree.instances w.tree.instances (is_below (state_of u) c slot) left x

  -- the slot is empty
  vacant : occupant w.tree.instances c slot ≡ None
  vacant = at (occupant w.tree.instances c slot) refl
    where
      at : (o : Option ℕ) → occupant w.tree.instances c slot ≡ o → occupant w.tree.instances c slot ≡ None
      at None e = e
      at (Some d) e = absurd (let z = empty d (g.sitting c slot d e).0 in let y = occupant_lies w.tree.instances g c slot d e in cc)

  child_left : (d s : ℕ) → is_alive w.tree.instances d ≡ true → occupant w.tree.instances d s ≡ (if c == d && slot == s then None else occupant u.tree.instances d s)
  child_left d s h = at (is_slot c slot (d, s)) refl ∙ ap (λ b. if b then None else occupant u.tree.instances d s) (ap (λ b. b && s == slot) (flip d c) ∙ ap (λ b. c == d && b) (flip s slot))
    where
      at : (b : Bool) → is_slot c slot (d, s) ≡ b → occupant w.tree.instances d s ≡ (if is_slot c slot (d, s) then None else occupant u.tree.instances d s)
      at true e =
          let q : ◌≡◌ {A = ℕ × ℕ} (d, s) (c, slot) = same_slot c slot (d, s) e in
          ap (λ (z : ℕ × ℕ). occupant w.tree.instances z.0 z.1) q ∙ vacant ∙ sym (ap (λ b. if b then None else occupant u.tree.instances d s) e)
      at false e =
          let n : lies_in u.tree.instances c slot d ≡ false = sym (ap (list_any (is_slot c slot)) (k.only.lines d)) ∙ empty d h in
          k.occupants d s h n e ∙ sym (ap (λ b. if b then None else occupant u.tree.instances d s) e)

  pub is_removed : IsRemoved (dies_with u c slot) c slot (state_of u) (state_of w)
  unfolding state_of
  is_removed = record {
    nodes = k.only.nodes;
    living = left;
    child = child_left;
    links = λ x. ap (option_map link_seen) (k.only.links x ∙ split (is_living w x) (is_living u x) (dies_with u c slot x) (link_of u.wires.links x) (t.links x) (chans x)) ∙ mapped_if link_seen (dies_with u c slot x) (link_of u.wires.links x);
    queues = λ x d.
        ap (queue_in (leads_out w.numbers x d)) (k.only.queues x d ∙ split (is_living w x) (is_living u x) (dies_with u c slot x) (queue_of u.slots x d) (queue_lives u t x d) (chans x))
        ∙ ap (λ n. queue_in (leads_out n x d) (if dies_with u c slot x then None else queue_of u.slots x d)) k.only.numbers
        ∙ queue_if (leads_out u.numbers x d) (dies_with u c slot x) (queue_of u.slots x d);
    controls = λ d. ap (option_map row_seen) (k.only.rows d ∙ split (is_alive w.tree.instances d) (is_alive u.tree.instances d) (is_below (state_of u) c slot d) (living_of u.rows d) (row_living u.rows d ∙ t.rows d) (left d)) ∙ mapped_if row_seen (is_below (state_of u) c slot d) (living_of u.rows d);
    bodies = λ d. k.only.bodies d ∙ split (is_alive w.tree.instances d) (is_alive u.tree.instances d) (is_below (state_of u) c slot d) (body_at u.bodies.bodies d) (t.bodies d) (left d);
  }

  pub frees_room : FreesRoom (is_below (state_of u) c slot) (dies_with u c slot) u w
  unfolding instance_spare channel_spare control_spare has_row queue_spare has_queues
  frees_room = record {
    numbers = k.only.numbers;
    instances = ap (λ a. min a (min w.bodies.spare w.numbers.spare)) k.only.instances ∙ ap (λ a. min u.tree.spare (min a w.numbers.spare)) k.only.shelf ∙ ap (λ (n : Numbering). min u.tree.spare (min u.bodies.spare n.spare)) k.only.numbers;
    channels = k.only.channels;
    rows = k.only.has_rows;
    controls = λ d h. k.controls d (sym (below_is u c slot d) ∙ h);
    queues = λ x h. ap is_some (k.slots x (sym (dies_is u c slot x) ∙ h));
    queue_spares = λ x d h. ap (λ o. option_map_or (λ (s : Slot). (side s d).spare) o 0) (k.slots x (sym (dies_is u c slot x) ∙ h));
  }
