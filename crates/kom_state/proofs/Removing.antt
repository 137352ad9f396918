-- An instance ends, and the rest stays.
use Rattle.std.proofs.Common.{◌≡◌, ◌≢◌, ℕ, ◌+◌, ◌<◌, ◌≤◌, Bool, true, false, not, ◌&&◌, ◌⊎◌, List, length, map, ◌-◌, Option, Some, None, refl, sym, ap, ◌∙◌, inl, inr, arith, if◌then◌else◌}
use Rattle.std.specs.Prelude.{◌==◌, nat_lt, nat_le, is_some}
use Rattle.std.specs.Option.{option_map, option_map_or, option_and_then}
use Rattle.std.proofs.lemmas.List.{length-map}
use Rattle.std.proofs.lemmas.Bool.Decides.{eqb_tells}
use Rattle.std.proofs.lemmas.Bool.{ltb-true, ltb-false, leb-true, leb-false, le-leb, lt-ltb}
use Rattle.kom_base.specs.declared.numbers.Dir.{Dir}
use Rattle.kom_record.specs.Channels.{Channel, Environment, Own}
use Rattle.kom_tree.specs.Forest.{Forest, Instance, is_alive, is_slot, line_of, parent_of, occupant, is_under, felled, IsGrown}
use Rattle.kom_wiring.specs.declared.link.Link as wiring
use Rattle.kom_wiring.specs.Wires.{Wires, link_of}
use Rattle.kom_queues.specs.declared.slot.Slot.{Slot}
use Rattle.kom_queues.specs.Waiting.{Waiting}
use Rattle.kom_queues.specs.Slots.{queue_of, side}
use Rattle.kom_life.specs.declared.row.Row.{Row}
use Rattle.kom_life.specs.Rows as rows
use Rattle.kom_life.specs.Rows.{living_of}
use Rattle.kom_numbers.specs.Numbering.{Numbering, wire_among, wire_at, channel_at, is_of}
use Rattle.kom_state.specs.Shelves.{Shelf, body_at}
use Rattle.kom_state.specs.Parts.{Parts, node_seen}
use Rattle.kom_state.specs.Sound.{IsTied, lives, aim_for}
use Rattle.kom_state.specs.Removals.{IsCutOut, is_living, HasOnlyLiving, IsWithout}
use Rattle.kom_state.proofs.Conditions.{mapped, row_living}
use Rattle.kom_state.proofs.Keeping.{flip}
use Rattle.kom_state.proofs.Lines.{ended_one, same_lines, same_nodes, same_slot}

-- what is not there is none
pub nothing : {A : Type 0} (o : Option A) → is_some o ≡ false → o ≡ None
nothing None h = refl
nothing (Some a) h = absurd (cc)

-- what is there only where the test holds
pub guarded : {A : Type 0} (b : Bool) (o : Option A) → is_some o ≡ b → o ≡ (if b then o else None)
guarded true o h = refl
guarded false o h = nothing o h

some_if : {A : Type 0} (b c : Bool) (o : Option A) → is_some o ≡ c → (b ≡ true → c ≡ true) → is_some (if b then o else None) ≡ b
some_if true c o h k = h ∙ k refl
some_if false c o h k = refl

-- ---- whether a channel lives

module _ (n : Numbering) (d : ℕ) (is js : List Instance) (one : (e : ℕ) → is_alive js e ≡ (is_alive is e && not (e == d))) where
  chan_by : (o : Option (ℕ × ℕ)) → option_map_or (lives js) (option_map (λ (q : ℕ × ℕ). Own q.0 q.1) o) false ≡ (option_map_or (lives is) (option_map (λ (q : ℕ × ℕ). Own q.0 q.1) o) false && not (option_map_or (λ (q : ℕ × ℕ). d == q.0) o false))
  chan_by None = refl
  chan_by (Some q) = one q.0 ∙ ap (λ b. is_alive is q.0 && not b) (flip q.0 d)

  none_before : (x : ℕ) → nat_lt x (length n.outs) ≡ true → is_of n d x ≡ false
  none_before x h = ap (λ b. option_map_or (λ (q : ℕ × ℕ). d == q.0) (if b then None else wire_among 0 n.counts (x - length n.outs)) false) h

  -- the channels of the instance have ended, and no other
  pub chan_ended : (x : ℕ) → option_map_or (lives js) (channel_at n x) false ≡ (option_map_or (lives is) (channel_at n x) false && not (is_of n d x))
  chan_ended x = at (nat_lt x (length n.outs)) refl
    where
      at : (b : Bool) → nat_lt x (length n.outs) ≡ b → option_map_or (lives js) (channel_at n x) false ≡ (option_map_or (lives is) (channel_at n x) false && not (is_of n d x))
      at true h =
          ap (λ b. option_map_or (lives js) (if b then Some (Environment x) else option_map (λ (q : ℕ × ℕ). Own q.0 q.1) (wire_at n x)) false) h
          ∙ sym (ap (λ b. option_map_or (lives is) (if b then Some (Environment x) else option_map (λ (q : ℕ × ℕ). Own q.0 q.1) (wire_at n x)) false && not (is_of n d x)) h
          ∙ ap not (none_before x h))
      at false h =
          ap (λ b. option_map_or (lives js) (if b then Some (Environment x) else option_map (λ (q : ℕ × ℕ). Own q.0 q.1) (wire_at n x)) false) h
          ∙ chan_by (wire_at n x)
          ∙ sym (ap (λ b. option_map_or (lives is) (if b then Some (Environment x) else option_map (λ (q : ℕ × ℕ). Own q.0 q.1) (wire_at n x)) false && not (is_of n d x)) h)

-- the channels of a living instance live
pub own_lives : (n : Numbering) (is : List Instance) (d x : ℕ) → is_alive is d ≡ true → is_of n d x ≡ true → option_map_or (lives is) (channel_at n x) false ≡ true
own_lives n is d x life h = at (nat_lt x (length n.outs)) refl
  where
    by : (o : Option (ℕ × ℕ)) → option_map_or (λ (q : ℕ × ℕ). d == q.0) o false ≡ true → option_map_or (lives is) (option_map (λ (q : ℕ × ℕ). Own q.0 q.1) o) false ≡ true
    by None k = absurd (cc)
    by (Some q) k = elim (eqb_tells d q.0) [ inl t ↦ ap (is_alive is) (sym t.1) ∙ life | inr f ↦ absurd (let z = f.0 in cc) ]

    at : (b : Bool) → nat_lt x (length n.outs) ≡ b → option_map_or (lives is) (channel_at n x) false ≡ true
    at true k = ap (λ b. option_map_or (lives is) (if b then Some (Environment x) else option_map (λ (q : ℕ × ℕ). Own q.0 q.1) (wire_at n x)) false) k
    at false k = ap (λ b. option_map_or (lives is) (if b then Some (Environment x) else option_map (λ (q : ℕ × ℕ). Own q.0 q.1) (wire_at n x)) false) k ∙ by (wire_at n x) h

pub in_span : (first count x : ℕ) → first ≤ x → x < first + count → (nat_le first x && nat_lt x (first + count)) ≡ true
in_span first count x l h = ap (λ b. b && nat_lt x (first + count)) (le-leb first x l) ∙ lt-ltb x (first + count) h

-- ---- the parts stay tied

module _ (v w : Parts) (h : HasOnlyLiving v w) where
  -- a channel that lives now lived before
  chan_fewer : (o : Option Channel) → option_map_or (lives w.tree.instances) o false ≡ true → option_map_or (lives v.tree.instances) o false ≡ true
  chan_fewer None k = k
  chan_fewer (Some (Environment q)) k = refl
  chan_fewer (Some (Own c j)) k = h.fewer c k

  same_channel : (x : ℕ) → channel_at w.numbers x ≡ channel_at v.numbers x
  same_channel x = ap (λ n. channel_at n x) h.numbers

  pub lived : (x : ℕ) → is_living w x ≡ true → is_living v x ≡ true
  lived x k = chan_fewer (channel_at v.numbers x) (sym (ap (λ o. option_map_or (lives w.tree.instances) o false) (same_channel x)) ∙ k)

  queue_aims : (b : Bool) (x : ℕ) (d : Dir) (o : Option Waiting) (l : Option wiring.Link) → option_map (λ (w : Waiting). w.aim) o ≡ option_map (aim_for v.numbers x d) l
      → option_map (λ (w : Waiting). w.aim) (if b then o else None) ≡ option_map (aim_for v.numbers x d) (if b then l else None)
  queue_aims true x d o l e = e
  queue_aims false x d o l e = refl

  pub only_tied : IsTied v → IsTied w
  only_tied t =
      let as_long : length w.tree.instances ≡ length v.tree.instances =
      sym (length-map w.tree.instances node_seen) ∙ ap length h.nodes ∙ length-map v.tree.instances node_seen in
      record {
        numbered = ap (λ (n : Numbering). length n.counts) h.numbers ∙ t.numbered ∙ sym as_long;
        held_bodies = h.long ∙ t.held_bodies ∙ sym as_long;
        bodies = λ e. ap is_some (h.bodies e) ∙ some_if (is_alive w.tree.instances e) (is_alive v.tree.instances e) (body_at v.bodies.bodies e) (t.bodies e) (h.fewer e);
        rows = λ e. sym (row_living w.rows e) ∙ ap is_some (h.rows e) ∙ some_if (is_alive w.tree.instances e) (is_alive v.tree.instances e) (living_of v.rows e) (row_living v.rows e ∙ t.rows e) (h.fewer e);
        links = λ x. ap is_some (h.links x) ∙ some_if (is_living w x) (is_living v x) (link_of v.wires.links x) (t.links x) (lived x);
        queues = λ x d.
            ap (option_map (λ (w : Waiting). w.aim)) (h.queues x d)
            ∙ queue_aims (is_living w x) x d (queue_of v.slots x d) (link_of v.wires.links x) (t.queues x d)
            ∙ ap (option_map (aim_for v.numbers x d)) (sym (h.links x))
            ∙ ap (λ n. option_map (aim_for n x d) (link_of w.wires.links x)) (sym h.numbers);
      }

-- ---- one instance has ended

module _ (v : Parts) (t : IsTied v) (g : IsGrown v.tree.instances) (d p s : ℕ)
    (up : parent_of v.tree.instances d ≡ Some (p, s)) (life : is_alive v.tree.instances d ≡ true) (last : (e : ℕ) → is_alive v.tree.instances e ≡ true → is_under d (parent_of v.tree.instances e) ≡ false)
    (ws : Wires) (ss : List (ℕ × Slot)) (rs : List Row) (bs : Shelf) (forest : Forest) where
  abbrev pub rest : Parts
  rest = record { tree = forest; wires = ws; slots = ss; rows = rs; bodies = bs; numbers = v.numbers }

  module _ (first count : ℕ) (owns : (x : ℕ) → is_of v.numbers d x ≡ (nat_le first x && nat_lt x (first + count)))
      (cut : IsCutOut first count v.wires ws v.slots ss)
      (row : (y : ℕ) → living_of rs y ≡ (if y == d then None else living_of v.rows y)) (spare : (y : ℕ) → y ≢ d → rows.spare_of rs y ≡ rows.spare_of v.rows y) (room : (y : ℕ) → rows.has_room rs y ≡ rows.has_room v.rows y)
      (body : (e : ℕ) → body_at bs.bodies e ≡ (if e == d then None else body_at v.bodies.bodies e)) (long : length bs.bodies ≡ length v.bodies.bodies) (shelf : bs.spare ≡ v.bodies.spare)
      (ends : forest.instances ≡ map (felled p s) v.tree.instances) (trees : forest.spare ≡ v.tree.spare)
      (sits : (a b : ℕ) → occupant forest.instances a b ≡ (if is_alive forest.instances a && not (is_slot p s (a, b)) then occupant v.tree.instances a b else None)) where
    one : (e : ℕ) → is_alive forest.instances e ≡ (is_alive v.tree.instances e && not (e == d))
    one e = ap (λ is. is_alive is e) ends ∙ ended_one v.tree.instances g d p s up life last e

    -- what an instance has where only this one loses it
    kept : {A : Type 0} (e : ℕ) (o : Option A) → is_some o ≡ is_alive v.tree.instances e → (if e == d then None else o) ≡ (if is_alive forest.instances e then o else None)
    kept e o h = at (e == d) refl
      where
        at : (b : Bool) → (e == d) ≡ b → (if e == d then None else o) ≡ (if is_alive forest.instances e then o else None)
        at true k = ap (λ b. if b then None else o) k ∙ sym (ap (λ b. if b then o else None) (one e ∙ ap (λ b. is_alive v.tree.instances e && not b) k ∙ none (is_alive v.tree.instances e)))
          where
            none : (b : Bool) → (b && false) ≡ false
            none true = refl
            none false = refl
        at false k = ap (λ b. if b then None else o) k ∙ guarded (is_alive v.tree.instances e) o h ∙ sym (ap (λ b. if b then o else None) (one e ∙ ap (λ b. is_alive v.tree.instances e && not b) k ∙ all (is_alive v.tree.instances e)))
          where
            all : (b : Bool) → (b && true) ≡ b
            all true = refl
            all false = refl

    lives_on : (x : ℕ) → is_living rest x ≡ (is_living v x && not (is_of v.numbers d x))
    lives_on x = chan_ended v.numbers d v.tree.instances forest.instances one x

    inside : (x : ℕ) → is_of v.numbers d x ≡ true → (first ≤ x) × (x < first + count)
    inside x h = at (nat_le first x) (nat_lt x (first + count)) refl refl (sym (owns x) ∙ h)
      where
        at : (a b : Bool) → nat_le first x ≡ a → nat_lt x (first + count) ≡ b → (nat_le first x && nat_lt x (first + count)) ≡ true → (first ≤ x) × (x < first + count)
        at true true e f k = (leb-true first x e, ltb-true x (first + count) f)
        at true false e f k = absurd (let z : (nat_le first x && nat_lt x (first + count)) ≡ false = ap (λ b. b && nat_lt x (first + count)) e ∙ f in cc)
        at false b e f k = absurd (let z : (nat_le first x && nat_lt x (first + count)) ≡ false = ap (λ b. b && nat_lt x (first + count)) e in cc)

    outside : (x : ℕ) → is_of v.numbers d x ≡ false → (x < first) ⊎ (first + count ≤ x)
    outside x h = at (nat_le first x) (nat_lt x (first + count)) refl refl (sym (owns x) ∙ h)
      where
        at : (a b : Bool) → nat_le first x ≡ a → nat_lt x (first + count) ≡ b → (nat_le first x && nat_lt x (first + count)) ≡ false → (x < first) ⊎ (first + count ≤ x)
        at true true e f k = absurd (let z : (nat_le first x && nat_lt x (first + count)) ≡ true = ap (λ b. b && nat_lt x (first + count)) e ∙ f in cc)
        at true false e f k = inr (ltb-false x (first + count) f)
        at false b e f k = inl (let l = leb-false first x e in omega (arith, l))

    -- what a channel has where only the channels of the instance lose it
    chan_kept : {A : Type 0} (x : ℕ) (old new : Option A) → is_some old ≡ is_living v x → (is_of v.numbers d x ≡ true → new ≡ None) → (is_of v.numbers d x ≡ false → new ≡ old) → new ≡ (if is_living rest x then old else None)
    chan_kept x old new h gone same = at (is_of v.numbers d x) refl
      where
        at : (b : Bool) → is_of v.numbers d x ≡ b → new ≡ (if is_living rest x then old else None)
        at true k = gone k ∙ sym (ap (λ b. if b then old else None) (lives_on x ∙ ap (λ b. is_living v x && not b) k ∙ none (is_living v x)))
          where
            none : (b : Bool) → (b && false) ≡ false
            none true = refl
            none false = refl
        at false k = same k ∙ guarded (is_living v x) old h ∙ sym (ap (λ b. if b then old else None) (lives_on x ∙ ap (λ b. is_living v x && not b) k ∙ all (is_living v x)))
          where
            all : (b : Bool) → (b && true) ≡ b
            all true = refl
            all false = refl

    abbrev waits : Dir → Option Slot → Option Waiting
    waits e o = option_and_then (λ (s : Slot). if s.living then Some (side s e) else None) o

    queue_there : (x : ℕ) (e : Dir) → is_some (queue_of v.slots x e) ≡ is_living v x
    queue_there x e = sym (mapped (λ (w : Waiting). w.aim) (queue_of v.slots x e)) ∙ ap is_some (t.queues x e) ∙ mapped (aim_for v.numbers x e) (link_of v.wires.links x) ∙ t.links x

    pub only : HasOnlyLiving v rest
    only = record {
      numbers = refl;
      nodes = ap (map node_seen) ends ∙ same_nodes p s v.tree.instances;
      lines = λ e. ap (λ is. line_of is e) ends ∙ same_lines p s v.tree.instances e;
      fewer = λ e h. left (is_alive v.tree.instances e) (not (e == d)) (sym (one e) ∙ h);
      links = λ x. chan_kept x (link_of v.wires.links x) (link_of ws.links x) (t.links x) (λ k. let i = inside x k in cut.no_link x i.0 i.1) (λ k. cut.links x (outside x k));
      queues = λ x e. chan_kept x (queue_of v.slots x e) (queue_of ss x e) (queue_there x e) (λ k. let i = inside x k in ap (waits e) (cut.no_slot x i.0 i.1)) (λ k. ap (waits e) (cut.slots x (outside x k)));
      rows = λ e. row e ∙ kept e (living_of v.rows e) (row_living v.rows e ∙ t.rows e);
      bodies = λ e. body e ∙ kept e (body_at v.bodies.bodies e) (t.bodies e);
      instances = trees;
      shelf = shelf;
      long = long;
      channels = cut.spare;
      has_rows = room;
    }
      where
        left : (a b : Bool) → (a && b) ≡ true → a ≡ true
        left true b h = refl
        left false b h = h

    pub is_without : IsWithout d v rest
    is_without = record {
      only = only;
      living = one;
      occupants = λ a b h n. sits a b ∙ ap (λ z. if z && not (is_slot p s (a, b)) then occupant v.tree.instances a b else None) h ∙ at a b n (is_slot p s (a, b)) refl;
      controls = spare;
      slots = λ x k. cut.slots x (outside x k);
    }
      where
        at : (a b : ℕ) → occupant v.tree.instances a b ≢ Some d → (z : Bool) → is_slot p s (a, b) ≡ z → (if not (is_slot p s (a, b)) then occupant v.tree.instances a b else None) ≡ occupant v.tree.instances a b
        at a b n true e =
            let q : ◌≡◌ {A = ℕ × ℕ} (a, b) (p, s) = same_slot p s (a, b) e in
            absurd (n (ap (λ (z : ℕ × ℕ). occupant v.tree.instances z.0 z.1) q ∙ g.seated d (p, s) life up))
        at a b n false e = ap (λ z. if not z then occupant v.tree.instances a b else None) e
