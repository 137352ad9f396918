-- An instance is created with its channels.
use Rattle.std.proofs.Common.{◌≡◌, ℕ, zero, suc, ◌+◌, ◌-◌, ◌<◌, ◌≤◌, Bool, true, false, List, [], ◌∷◌, ◌++◌, length, map, Option, Some, None, refl, sym, ap, ◌∙◌, inl, inr, arith, if◌then◌else◌}
use Rattle.std.specs.Prelude.{slice_get, ◌==◌, is_some, nat_lt}
use Rattle.std.specs.Option.{IsSome, option_map, option_map_or, option_and_then}
use Rattle.std.proofs.lemmas.Bool.{ltb-true, ltb-false, le-ltb, lt-ltb, ne_eqb}
use Rattle.std.proofs.lemmas.Bool.Decides.{eqb_tells}
use Rattle.std.proofs.lemmas.List.{length-append, length-map}
use Rattle.std.proofs.lemmas.Option.{slice_get_past}
use Rattle.kom_base.specs.declared.numbers.Dir.{Dir}
use Rattle.kom_base.specs.declared.numbers.Dir.TheVariants.{Plus}
use Rattle.kom_base.specs.declared.numbers.EntryNo.{EntryNo}
use Rattle.kom_base.specs.Numbers.{same_dir}
use Rattle.kom_lang.specs.Declarations.{Declarations}
use Rattle.kom_lang.specs.declared.body.Body.{Body}
use Rattle.kom_record.specs.declared.item.Control.{Control as ControlItem}
use Rattle.kom_record.specs.Bodies.{catches}
use Rattle.kom_record.specs.Channels.{Channel, Environment, Own}
use Rattle.kom_tree.specs.Forest.{Forest, Instance, is_alive, line_under, occupant, hangs_in, with_child, MayHang}
use Rattle.kom_wiring.specs.declared.link.Link.{Link}
use Rattle.kom_wiring.specs.Wires.{Wires, link_of}
use Rattle.kom_queues.specs.declared.slot.Slot.{Slot}
use Rattle.kom_queues.specs.Waiting.{Waiting}
use Rattle.kom_queues.specs.Slots.{slot_of, queue_of, content_of, is_there}
use Rattle.kom_life.specs.declared.row.Row.{Row}
use Rattle.kom_life.specs.Rows as rows
use Rattle.kom_life.specs.Rows.{living_of}
use Rattle.kom_numbers.specs.Numbering.{Numbering, wire_among, channel_at, leads_out, total}
use Rattle.kom_numbers.proofs.Ownership.{added, sum_is}
use Rattle.kom_refine.specs.States.{Queue}
use Rattle.kom_refine.specs.Points.{receiver_of}
use Rattle.kom_refine.specs.Steps.{empty_queue}
use Rattle.kom_state.specs.Shelves.{Shelf, body_at}
use Rattle.kom_state.specs.Parts.{Parts, state_of, node_seen, link_seen, row_seen, queue_in, instance_spare, channel_spare, control_spare, has_row, queue_spare, has_queues}
use Rattle.kom_state.specs.Sound.{IsTied, lives, aim_for}
use Rattle.kom_state.specs.Plantings.{IsLaid, IsPlanted, TakesRoom, HasRoomFor, MayPlant, items_of, ancestry_in}
use Rattle.kom_state.proofs.Keeping.{itself}
use Rattle.kom_state.proofs.Conditions.{mapped, slot_living}
use Rattle.kom_state.proofs.Reading.{line_is}
use Rattle.kom_state.proofs.Removing.{nothing}

if_ap : {A B : Type 0} (f : A → B) (b : Bool) (x y : A) → f (if b then x else y) ≡ (if b then f x else f y)
if_ap f true x y = refl
if_ap f false x y = refl

-- an item at the end of a list
pub get_end : {A : Type 0} (xs : List A) (x : A) (d : ℕ) → slice_get (xs ++ x ∷ []) d ≡ (if d == length xs then Some x else slice_get xs d)
get_end [] x zero = sym (ap (λ b. if b then Some x else None) (itself 0))
get_end [] x (suc d) = sym (ap (λ b. if b then Some x else None) (ne_eqb (suc d) 0 (λ e. absurd (omega (arith, e)))))
get_end (y ∷ xs) x zero = sym (ap (λ b. if b then Some x else Some y) (ne_eqb 0 (suc (length xs)) (λ e. absurd (omega (arith, e)))))
get_end (y ∷ xs) x (suc d) = get_end xs x d ∙ ap (λ b. if b then Some x else slice_get xs d) (same d (length xs))
  where
    same : (a b : ℕ) → (a == b) ≡ (suc a == suc b)
    same a b = elim (eqb_tells a b) [
      | inl t ↦ t.0 ∙ sym (ap (λ z. suc z == suc b) t.1 ∙ itself (suc b))
      | inr f ↦ f.0 ∙ sym (ne_eqb (suc a) (suc b) (λ e. f.1 (omega (arith, e))))
    ]

map_end : {A B : Type 0} (f : A → B) (xs : List A) (x : A) → map f (xs ++ x ∷ []) ≡ map f xs ++ f x ∷ []
map_end f [] x = refl
map_end f (y ∷ xs) x = ap (λ l. f y ∷ l) (map_end f xs x)

pub get_some : {A : Type 0} (xs : List A) (j : ℕ) → is_some (slice_get xs j) ≡ nat_lt j (length xs)
get_some [] j = sym (le-ltb j 0 (omega arith))
get_some (x ∷ xs) zero = sym (lt-ltb 0 (suc (length xs)) (omega arith))
get_some (x ∷ xs) (suc j) = get_some xs j ∙ same j (length xs)
  where
    same : (a b : ℕ) → nat_lt a b ≡ nat_lt (suc a) (suc b)
    same a b = go (nat_lt a b) refl
      where
        go : (t : Bool) → nat_lt a b ≡ t → nat_lt a b ≡ nat_lt (suc a) (suc b)
        go true e = e ∙ sym (lt-ltb (suc a) (suc b) (let l = ltb-true a b e in omega (arith, l)))
        go false e = e ∙ sym (le-ltb (suc a) (suc b) (let l = ltb-false a b e in omega (arith, l)))

-- ---- the channels of one instance more

by_less : {X : Type 0} (P : X → Type 0) (u v : X) (a b : ℕ) → (a < b → P u) → (b ≤ a → P v) → P (if nat_lt a b then u else v)
by_less P u v a b below above = go (nat_lt a b) refl
  where
    go : (t : Bool) → nat_lt a b ≡ t → P (if t then u else v)
    go true e = below (ltb-true a b e)
    go false e = above (ltb-false a b e)

-- before the new channels, each is as it was
wire_before : (b : ℕ) (ns : List ℕ) (k y : ℕ) → y < added ns → wire_among b (ns ++ k ∷ []) y ≡ wire_among b ns y
wire_before b [] k y h = absurd (omega (arith, h))
wire_before b (n ∷ ns) k y h = by_less (λ w. (if nat_lt y n then Some (b, y) else wire_among (suc b) (ns ++ k ∷ []) (y - n)) ≡ w) (Some (b, y)) (wire_among (suc b) ns (y - n)) y n
    (λ l. ap (λ t. if t then Some (b, y) else wire_among (suc b) (ns ++ k ∷ []) (y - n)) (lt-ltb y n l))
    (λ l. ap (λ t. if t then Some (b, y) else wire_among (suc b) (ns ++ k ∷ []) (y - n)) (le-ltb y n l) ∙ wire_before (suc b) ns k (y - n) (omega (arith, h, l)))

-- the new ones are those of the new instance
wire_after : (b : ℕ) (ns : List ℕ) (k y : ℕ) → added ns ≤ y → wire_among b (ns ++ k ∷ []) y ≡ (if nat_lt (y - added ns) k then Some (b + length ns, y - added ns) else None)
wire_after b [] k y h =
    let e : y ≡ y - 0 = omega arith in
    let f : b ≡ b + 0 = omega arith in
    ap (λ z. if nat_lt z k then Some (b, z) else None) e ∙ ap (λ z. if nat_lt (y - 0) k then Some (z, y - 0) else None) f
wire_after b (n ∷ ns) k y h =
    let e : suc b + length ns ≡ b + suc (length ns) = omega arith in
    let f : y - n - added ns ≡ y - (n + added ns) = omega arith in
    ap (λ t. if t then Some (b, y) else wire_among (suc b) (ns ++ k ∷ []) (y - n)) (le-ltb y n (omega (arith, h)))
    ∙ wire_after (suc b) ns k (y - n) (omega (arith, h))
    ∙ ap (λ z. if nat_lt (y - n - added ns) k then Some (z, y - n - added ns) else None) e
    ∙ ap (λ z. if nat_lt z k then Some (b + suc (length ns), z) else None) f

owner_made : (b : ℕ) (ns : List ℕ) (y : ℕ) (q : ℕ × ℕ) → wire_among b ns y ≡ Some q → q.0 < b + length ns
owner_made b [] y q h = absurd (cc)
owner_made b (n ∷ ns) y q h = go (nat_lt y n) refl (owner_made (suc b) ns (y - n) q)
  where
    go : (t : Bool) → nat_lt y n ≡ t → (wire_among (suc b) ns (y - n) ≡ Some q → q.0 < suc b + length ns) → q.0 < b + suc (length ns)
    go true e rest =
        let f : Some (b, y) ≡ Some q = sym (ap (λ t. if t then Some (b, y) else wire_among (suc b) ns (y - n)) e) ∙ h in
        let g : ◌≡◌ {A = ℕ × ℕ} (b, y) q = cc in
        omega (arith, ap {B = ℕ} (λ (z : ℕ × ℕ). z.0) g)
    go false e rest = let r = rest (sym (ap (λ t. if t then Some (b, y) else wire_among (suc b) ns (y - n)) e) ∙ h) in omega (arith, r)

-- ---- the parts

module _ (v : Parts) (t : IsTied v) (S : Declarations) (place : Option (ℕ × ℕ)) (body : Body) (init : Option ControlItem) (links : List Link)
    (forest : Forest) (ws : Wires) (ss : List (ℕ × Slot)) (rs : List Row) (bs : Shelf) (n : Numbering) where
  abbrev pub grown : Parts
  grown = record { tree = forest; wires = ws; slots = ss; rows = rs; bodies = bs; numbers = n }

  abbrev count : ℕ
  count = length v.tree.instances

  abbrev first : ℕ
  first = total v.numbers

  module _ (trees : forest.instances ≡ with_child v.tree.instances place body.kind)
      (sits : (p s : ℕ) → occupant forest.instances p s ≡ (if hangs_in p s place then Some count else occupant v.tree.instances p s))
      (outs : n.outs ≡ v.numbers.outs) (counts : n.counts ≡ v.numbers.counts ++ length links ∷ [])
      (row : (d : ℕ) → living_of rs d ≡ (if d == count then Some (record { controls = items_of init; active = body.active; catches = catches S body }) else living_of v.rows d))
      (there : (d : ℕ) → rows.is_there rs d ≡ (if d == count then true else rows.is_there v.rows d))
      (bodies : bs.bodies ≡ v.bodies.bodies ++ Some body ∷ [])
      (laid : IsLaid n first links v.wires ws v.slots ss) where
    new_life : (d : ℕ) → is_alive forest.instances d ≡ (if d == count then true else is_alive v.tree.instances d)
    new_life d =
        ap (λ is. is_alive is d) trees
        ∙ ap (λ o. option_map_or (λ (i : Instance). i.living) o false) (get_end v.tree.instances (record { kind = body.kind; line = line_under v.tree.instances place; living = true }) d)
        ∙ if_ap (λ o. option_map_or (λ (i : Instance). i.living) o false) (d == count) (Some (record { kind = body.kind; line = line_under v.tree.instances place; living = true })) (slice_get v.tree.instances d)

    new_body : (d : ℕ) → body_at bs.bodies d ≡ (if d == count then Some body else body_at v.bodies.bodies d)
    new_body d =
        ap (λ b. body_at b d) bodies
        ∙ ap (option_and_then (λ b. b)) (get_end v.bodies.bodies (Some body) d)
        ∙ if_ap (option_and_then (λ b. b)) (d == length v.bodies.bodies) (Some (Some body)) (slice_get v.bodies.bodies d)
        ∙ ap (λ k. if d == k then Some body else body_at v.bodies.bodies d) t.held_bodies

    same_outs : (x : ℕ) (d : Dir) → leads_out n x d ≡ leads_out v.numbers x d
    same_outs x d = ap (λ os. leads_out (record { outs = os; counts = n.counts; spare = n.spare }) x d) outs

    same_aim : (x : ℕ) (d : Dir) (l : Link) → aim_for n x d l ≡ aim_for v.numbers x d l
    same_aim x d l = ap (λ b. if b then None else receiver_of d (link_seen l)) (same_outs x d)

    -- the channel with a number among more channels
    abbrev chan : Bool → Option (ℕ × ℕ) → ℕ → Option Channel
    chan b w x = if b then Some (Environment x) else option_map (λ (q : ℕ × ℕ). Own q.0 q.1) w

    total_is : total v.numbers ≡ length v.numbers.outs + added v.numbers.counts
    total_is = ap (λ k. length v.numbers.outs + k) (sum_is v.numbers.counts)

    old_owner : (o : Option (ℕ × ℕ)) → ((q : ℕ × ℕ) → o ≡ Some q → q.0 < count) → option_map_or (lives forest.instances) (option_map (λ (q : ℕ × ℕ). Own q.0 q.1) o) false ≡ option_map_or (lives v.tree.instances) (option_map (λ (q : ℕ × ℕ). Own q.0 q.1) o) false
    old_owner None h = refl
    old_owner (Some q) h = new_life q.0 ∙ ap (λ b. if b then true else is_alive v.tree.instances q.0) (ne_eqb q.0 count (λ e. let l = h q refl in absurd (omega (arith, e, l))))

    old_living : (x : ℕ) → x < first → option_map_or (lives forest.instances) (channel_at n x) false ≡ option_map_or (lives v.tree.instances) (channel_at v.numbers x) false
    old_living x h =
        ap (λ os. option_map_or (lives forest.instances) (channel_at (record { outs = os; counts = n.counts; spare = n.spare }) x) false) outs
        ∙ ap (λ cs. option_map_or (lives forest.instances) (channel_at (record { outs = v.numbers.outs; counts = cs; spare = n.spare }) x) false) counts
        ∙ at (nat_lt x (length v.numbers.outs)) refl
      where
        at : (b : Bool) → nat_lt x (length v.numbers.outs) ≡ b
            → option_map_or (lives forest.instances) (channel_at (record { outs = v.numbers.outs; counts = v.numbers.counts ++ length links ∷ []; spare = n.spare }) x) false ≡ option_map_or (lives v.tree.instances) (channel_at v.numbers x) false
        at true e =
            ap (λ b. option_map_or (lives forest.instances) (chan b (if b then None else wire_among 0 (v.numbers.counts ++ length links ∷ []) (x - length v.numbers.outs)) x) false) e
            ∙ sym (ap (λ b. option_map_or (lives v.tree.instances) (chan b (if b then None else wire_among 0 v.numbers.counts (x - length v.numbers.outs)) x) false) e)
        at false e =
            let l = ltb-false x (length v.numbers.outs) e in
            ap (λ b. option_map_or (lives forest.instances) (chan b (if b then None else wire_among 0 (v.numbers.counts ++ length links ∷ []) (x - length v.numbers.outs)) x) false) e
            ∙ ap (λ w. option_map_or (lives forest.instances) (option_map (λ (q : ℕ × ℕ). Own q.0 q.1) w) false) (wire_before 0 v.numbers.counts (length links) (x - length v.numbers.outs) (omega (arith, h, l, total_is)))
            ∙ old_owner (wire_among 0 v.numbers.counts (x - length v.numbers.outs)) (λ q f. let m = owner_made 0 v.numbers.counts (x - length v.numbers.outs) q f in omega (arith, m, t.numbered))
            ∙ sym (ap (λ b. option_map_or (lives v.tree.instances) (chan b (if b then None else wire_among 0 v.numbers.counts (x - length v.numbers.outs)) x) false) e)

    new_living : (x : ℕ) → first ≤ x → option_map_or (lives forest.instances) (channel_at n x) false ≡ nat_lt (x - first) (length links)
    new_living x h =
        ap (λ os. option_map_or (lives forest.instances) (channel_at (record { outs = os; counts = n.counts; spare = n.spare }) x) false) outs
        ∙ ap (λ cs. option_map_or (lives forest.instances) (channel_at (record { outs = v.numbers.outs; counts = cs; spare = n.spare }) x) false) counts
        ∙ ap (λ b. option_map_or (lives forest.instances) (chan b (if b then None else wire_among 0 (v.numbers.counts ++ length links ∷ []) (x - length v.numbers.outs)) x) false) (le-ltb x (length v.numbers.outs) (omega (arith, h)))
        ∙ ap (λ w. option_map_or (lives forest.instances) (option_map (λ (q : ℕ × ℕ). Own q.0 q.1) w) false) (wire_after 0 v.numbers.counts (length links) (x - length v.numbers.outs) (omega (arith, h, total_is)))
        ∙ (let e : x - length v.numbers.outs - added v.numbers.counts ≡ x - first = omega (arith, h, total_is) in
        let f : 0 + length v.numbers.counts ≡ count = omega (arith, t.numbered) in
        ap (λ j. option_map_or (lives forest.instances) (option_map (λ (q : ℕ × ℕ). Own q.0 q.1) (if nat_lt j (length links) then Some (0 + length v.numbers.counts, j) else None)) false) e
        ∙ ap (λ o. option_map_or (lives forest.instances) (option_map (λ (q : ℕ × ℕ). Own q.0 q.1) (if nat_lt (x - first) (length links) then Some (o, x - first) else None)) false) f)
        ∙ at (nat_lt (x - first) (length links))
      where
        at : (b : Bool) → option_map_or (lives forest.instances) (option_map (λ (q : ℕ × ℕ). Own q.0 q.1) (if b then Some (count, x - first) else None)) false ≡ b
        at true = new_life count ∙ ap (λ b. if b then true else is_alive v.tree.instances count) (itself count)
        at false = refl

    abbrev Content : Type 0
    Content = Option (List EntryNo × Option ℕ)

    aim_of_content : (o : Option Waiting) → option_map (λ (w : Waiting). w.aim) o ≡ option_map (λ (z : List EntryNo × Option ℕ). z.1) (option_map {U = List EntryNo × Option ℕ} (λ (w : Waiting). (w.numbers, w.aim)) o)
    aim_of_content None = refl
    aim_of_content (Some w) = refl

    aims_of : (x : ℕ) (d : Dir) (o : Option Link) → option_map (λ (z : List EntryNo × Option ℕ). z.1) (option_map {U = List EntryNo × Option ℕ} (λ l. ([], aim_for n x d l)) o) ≡ option_map (aim_for n x d) o
    aims_of x d None = refl
    aims_of x d (Some l) = refl

    same_aims : (x : ℕ) (d : Dir) (o : Option Link) → option_map (aim_for v.numbers x d) o ≡ option_map (aim_for n x d) o
    same_aims x d None = refl
    same_aims x d (Some l) = ap Some (sym (same_aim x d l))

    some_new : (d : ℕ) → is_some {T = Body} (if d == count then Some body else body_at v.bodies.bodies d) ≡ (if d == count then true else is_alive v.tree.instances d)
    some_new d = if_ap is_some (d == count) (Some body) (body_at v.bodies.bodies d) ∙ ap (λ b. if d == count then true else b) (t.bodies d)

    pub grown_tied : IsTied grown
    grown_tied = record {
      numbered = ap length counts ∙ (let e = length-append v.numbers.counts (length links ∷ []) in let f = length-append v.tree.instances (record { kind = body.kind; line = line_under v.tree.instances place; living = true } ∷ []) in let g = ap length trees in omega (arith, e, f, g, t.numbered));
      held_bodies = ap length bodies ∙ (let e = length-append v.bodies.bodies (Some body ∷ []) in let f = length-append v.tree.instances (record { kind = body.kind; line = line_under v.tree.instances place; living = true } ∷ []) in let g = ap length trees in omega (arith, e, f, g, t.held_bodies));
      bodies = λ d. ap is_some (new_body d) ∙ some_new d ∙ sym (new_life d);
      rows = λ d. there d ∙ ap (λ b. if d == count then true else b) (t.rows d) ∙ sym (new_life d);
      links = λ x. ap is_some (laid.links_now x) ∙ at x (nat_lt x first) refl;
      queues = λ x d. aim_of_content (queue_of ss x d) ∙ ap (option_map (λ (z : List EntryNo × Option ℕ). z.1)) (laid.content x d) ∙ aims x d (nat_lt x first) refl ∙ ap (option_map (aim_for n x d)) (sym (laid.links_now x));
    }
      where
        at : (x : ℕ) (b : Bool) → nat_lt x first ≡ b → is_some (if nat_lt x first then link_of v.wires.links x else slice_get links (x - first)) ≡ option_map_or (lives forest.instances) (channel_at n x) false
        at x true e = ap (λ b. is_some (if b then link_of v.wires.links x else slice_get links (x - first))) e ∙ t.links x ∙ sym (old_living x (ltb-true x first e))
        at x false e = ap (λ b. is_some (if b then link_of v.wires.links x else slice_get links (x - first))) e ∙ get_some links (x - first) ∙ sym (new_living x (ltb-false x first e))

        aims : (x : ℕ) (d : Dir) (b : Bool) → nat_lt x first ≡ b
            → option_map (λ (z : List EntryNo × Option ℕ). z.1) (if nat_lt x first then content_of v.slots x d else option_map {U = List EntryNo × Option ℕ} (λ l. ([], aim_for n x d l)) (slice_get links (x - first)))
            ≡ option_map (aim_for n x d) (if nat_lt x first then link_of v.wires.links x else slice_get links (x - first))
        aims x d true e =
            ap (λ b. option_map (λ (z : List EntryNo × Option ℕ). z.1) (if b then content_of v.slots x d else option_map {U = List EntryNo × Option ℕ} (λ l. ([], aim_for n x d l)) (slice_get links (x - first)))) e
            ∙ sym (aim_of_content (queue_of v.slots x d)) ∙ t.queues x d ∙ same_aims x d (link_of v.wires.links x)
            ∙ sym (ap (λ b. option_map (aim_for n x d) (if b then link_of v.wires.links x else slice_get links (x - first))) e)
        aims x d false e =
            ap (λ b. option_map (λ (z : List EntryNo × Option ℕ). z.1) (if b then content_of v.slots x d else option_map {U = List EntryNo × Option ℕ} (λ l. ([], aim_for n x d l)) (slice_get links (x - first)))) e
            ∙ aims_of x d (slice_get links (x - first))
            ∙ sym (ap (λ b. option_map (aim_for n x d) (if b then link_of v.wires.links x else slice_get links (x - first))) e)

    seen_content : (o : Option Waiting) → queue_in false o ≡ option_map (λ (z : List EntryNo × Option ℕ). record { numbers = z.0; receiver = z.1 }) (option_map {U = List EntryNo × Option ℕ} (λ (w : Waiting). (w.numbers, w.aim)) o)
    seen_content None = refl
    seen_content (Some w) = refl

    abbrev queue_by : Bool → Option (List EntryNo × Option ℕ) → Option Queue
    queue_by out z = if out then None else option_map (λ (z : List EntryNo × Option ℕ). record { numbers = z.0; receiver = z.1 }) z

    seen_by : (out : Bool) (o : Option Waiting) → queue_in out o ≡ queue_by out (option_map {U = List EntryNo × Option ℕ} (λ (w : Waiting). (w.numbers, w.aim)) o)
    seen_by true o = refl
    seen_by false o = seen_content o

    inner : (x : ℕ) (d : Dir) → first ≤ x → leads_out n x d ≡ false
    inner x d h = same_outs x d ∙ ap (λ o. option_map_or (λ e. same_dir e d) o false) (slice_get_past v.numbers.outs x (omega (arith, h)))

    fresh_queue : (x : ℕ) (d : Dir) (o : Option Link) → leads_out n x d ≡ false
        → queue_by false (option_map {U = List EntryNo × Option ℕ} (λ l. ([], aim_for n x d l)) o) ≡ option_map (empty_queue d) (option_map link_seen o)
    fresh_queue x d None h = refl
    fresh_queue x d (Some l) h = ap (λ b. Some (record { numbers = []; receiver = if b then None else receiver_of d (link_seen l) })) h

    ancestry_is : (q : Option (ℕ × ℕ)) → line_under v.tree.instances q ≡ ancestry_in (state_of v) q
    ancestry_is None = refl
    ancestry_is (Some q) = ap (λ l. q ∷ l) (line_is v q.0)

    new_queue : (x : ℕ) (d : Dir) → queue_in (leads_out n x d) (queue_of ss x d) ≡ (if nat_lt x first then queue_in (leads_out v.numbers x d) (queue_of v.slots x d) else option_map (empty_queue d) (option_map link_seen (link_of ws.links x)))
    new_queue x d = seen_by (leads_out n x d) (queue_of ss x d) ∙ ap (queue_by (leads_out n x d)) (laid.content x d) ∙ at (nat_lt x first) refl
      where
        at : (b : Bool) → nat_lt x first ≡ b
            → queue_by (leads_out n x d) (if nat_lt x first then content_of v.slots x d else option_map {U = List EntryNo × Option ℕ} (λ l. ([], aim_for n x d l)) (slice_get links (x - first)))
            ≡ (if nat_lt x first then queue_in (leads_out v.numbers x d) (queue_of v.slots x d) else option_map (empty_queue d) (option_map link_seen (link_of ws.links x)))
        at true e =
            ap (λ b. queue_by (leads_out n x d) (if b then content_of v.slots x d else option_map {U = List EntryNo × Option ℕ} (λ l. ([], aim_for n x d l)) (slice_get links (x - first)))) e
            ∙ sym (seen_by (leads_out n x d) (queue_of v.slots x d))
            ∙ ap (λ b. queue_in b (queue_of v.slots x d)) (same_outs x d)
            ∙ sym (ap (λ b. if b then queue_in (leads_out v.numbers x d) (queue_of v.slots x d) else option_map (empty_queue d) (option_map link_seen (link_of ws.links x))) e)
        at false e =
            let out = inner x d (ltb-false x first e) in
            ap (λ b. queue_by (leads_out n x d) (if b then content_of v.slots x d else option_map {U = List EntryNo × Option ℕ} (λ l. ([], aim_for n x d l)) (slice_get links (x - first)))) e
            ∙ ap (λ b. queue_by b (option_map {U = List EntryNo × Option ℕ} (λ l. ([], aim_for n x d l)) (slice_get links (x - first)))) out
            ∙ fresh_queue x d (slice_get links (x - first)) out
            ∙ sym (ap (λ o. option_map (empty_queue d) (option_map link_seen o)) (laid.links_now x ∙ ap (λ b. if b then link_of v.wires.links x else slice_get links (x - first)) e))
            ∙ sym (ap (λ b. if b then queue_in (leads_out v.numbers x d) (queue_of v.slots x d) else option_map (empty_queue d) (option_map link_seen (link_of ws.links x))) e)

    pub is_planted : IsPlanted S count first place body init links (state_of v) (state_of grown)
    unfolding state_of
    is_planted = record {
      nodes = ap (map node_seen) trees ∙ map_end node_seen v.tree.instances (record { kind = body.kind; line = line_under v.tree.instances place; living = true })
          ∙ ap (λ l. map node_seen v.tree.instances ++ record { kind = body.kind; ancestry = l } ∷ []) (ancestry_is place);
      living = new_life;
      child = sits;
      links_now = λ x. ap (option_map link_seen) (laid.links_now x) ∙ if_ap (option_map link_seen) (nat_lt x first) (link_of v.wires.links x) (slice_get links (x - first));
      queues = new_queue;
      controls = λ d. ap (option_map row_seen) (row d) ∙ if_ap (option_map row_seen) (d == count) (Some (record { controls = items_of init; active = body.active; catches = catches S body })) (living_of v.rows d);
      bodies = new_body;
    }

    pub takes_room : v.tree.spare ≤ forest.spare + 1 → v.bodies.spare ≤ bs.spare + 1 → v.numbers.spare ≤ n.spare + 1
        → ((d : ℕ) → rows.has_room rs d ≡ rows.has_room v.rows d) → ((d : ℕ) → rows.spare_of v.rows d ≤ rows.spare_of rs d + (if d == count then length (items_of init) else 0)) → TakesRoom links init count v grown
    unfolding instance_spare channel_spare control_spare has_row queue_spare has_queues
    takes_room a b c has spare = record {
      outs = outs;
      counts = counts;
      instances = omega (arith, a, b, c);
      channels = laid.spare;
      rows = has;
      controls = spare;
      queues = laid.slots;
      queue_spares = laid.room;
    }

-- ---- what the parts need

module _ (v : Parts) (t : IsTied v) where
  pub count_is : length (state_of v).nodes ≡ length v.tree.instances
  unfolding state_of
  count_is = length-map v.tree.instances node_seen

  -- nobody has the next number
  not_made : (c : ℕ) → length v.tree.instances ≤ c → is_alive v.tree.instances c ≡ false
  not_made c h = ap (λ o. option_map_or (λ (i : Instance). i.living) o false) (slice_get_past v.tree.instances c h)

  pub no_row : rows.is_there v.rows (length v.tree.instances) ≡ false
  no_row = t.rows (length v.tree.instances) ∙ not_made (length v.tree.instances) (omega arith)

  sum_total : total v.numbers ≡ length v.numbers.outs + added v.numbers.counts
  sum_total = ap (λ k. length v.numbers.outs + k) (sum_is v.numbers.counts)

  none_beyond : (b : ℕ) (ns : List ℕ) (y : ℕ) → added ns ≤ y → wire_among b ns y ≡ None
  none_beyond b [] y h = refl
  none_beyond b (k ∷ ns) y h = ap (λ t. if t then Some (b, y) else wire_among (suc b) ns (y - k)) (le-ltb y k (omega (arith, h))) ∙ none_beyond (suc b) ns (y - k) (omega (arith, h))

  pub no_link : (x : ℕ) → total v.numbers ≤ x → link_of v.wires.links x ≡ None
  no_link x h = nothing (link_of v.wires.links x) (t.links x
      ∙ ap (λ b. option_map_or (lives v.tree.instances) (if b then Some (Environment x) else option_map (λ (q : ℕ × ℕ). Own q.0 q.1) (if b then None else wire_among 0 v.numbers.counts (x - length v.numbers.outs))) false) (le-ltb x (length v.numbers.outs) (omega (arith, h)))
      ∙ ap (λ w. option_map_or (lives v.tree.instances) (option_map (λ (q : ℕ × ℕ). Own q.0 q.1) w) false) (none_beyond 0 v.numbers.counts (x - length v.numbers.outs) (omega (arith, h, sum_total))))

  pub no_queues : (x : ℕ) → total v.numbers ≤ x → is_there v.slots x ≡ false
  no_queues x h =
      sym (slot_living v.slots x Plus) ∙ sym (mapped (λ (w : Waiting). w.aim) (queue_of v.slots x Plus))
      ∙ ap is_some (t.queues x Plus ∙ ap (option_map (aim_for v.numbers x Plus)) (no_link x h))

  pub may_hang : (place : Option (ℕ × ℕ)) → MayPlant (state_of v) place → MayHang v.tree.instances place
  unfolding state_of
  may_hang None h = at v.tree.instances h
    where
      at : (is : List Instance) → map node_seen is ≡ [] → is ≡ []
      at [] e = refl
      at (i ∷ is) e = absurd (cc)
  may_hang (Some q) h = h

  -- the room, part by part
  pub record Rooms (links : List Link) (init : Option ControlItem) : Type 0 where
    pub tree : 0 < v.tree.spare
    pub shelf : 0 < v.bodies.spare
    pub numbers : 0 < v.numbers.spare
    pub wires : length links ≤ v.wires.spare
    pub row : rows.has_room v.rows (length v.tree.instances) ≡ true
    pub items : length (items_of init) ≤ rows.spare_of v.rows (length v.tree.instances)
    pub slots : (x : ℕ) → total v.numbers ≤ x → x < total v.numbers + length links → IsSome (slot_of v.slots x)

  pub rooms : (links : List Link) (init : Option ControlItem) → HasRoomFor links init (length (state_of v).nodes) (total v.numbers) v → Rooms links init
  unfolding instance_spare channel_spare control_spare has_row queue_spare has_queues
  rooms links init h = record {
    tree = omega (arith, h.instances);
    shelf = omega (arith, h.instances);
    numbers = omega (arith, h.instances);
    wires = h.channels;
    row = sym (ap (rows.has_room v.rows) count_is) ∙ h.row;
    items = omega (arith, h.controls, ap (rows.spare_of v.rows) count_is);
    slots = h.queues;
  }
