-- Instances that are planted leave all others what they have to do.
use Rattle.std.proofs.Common.{◌≡◌, ℕ, ◌+◌, ◌<◌, ◌≤◌, ◌-◌, Bool, true, false, if◌then◌else◌, ◌&&◌, ◌||◌, ◌==◌, refl, sym, ap, ◌∙◌, subst, List, [], ◌∷◌, length, Option, Some, None, inl, inr, ◌⊎◌, arith}
use Rattle.std.specs.Prelude.{is_some, nat_le, nat_lt, slice_get}
use Rattle.std.specs.Option.{option_map, option_map_or}
use Rattle.std.proofs.lemmas.Bool.{eqb-true, le-leb, leb-false, leb-true, lt-ltb, ltb-false, ltb-true}
use Rattle.std.proofs.lemmas.Bool.Decides.{eqb_tells}
use Rattle.std.proofs.lemmas.List.{length-map}
use Rattle.std.proofs.lemmas.Option.{slice_get_past}
use Rattle.kom_base.specs.declared.numbers.Dir.{Dir}
use Rattle.kom_base.specs.declared.numbers.EntryNo.{EntryNo}
use Rattle.kom_lives.proofs.Lives.{both}
use Rattle.kom_births.specs.declared.seed.Seed.{Seed}
use Rattle.kom_births.specs.Laws.{CreationsAreSown, news_of, seeds_for}
use Rattle.kom_births.specs.Sowing.{AreSown, TakesRooms}
use Rattle.kom_nursery.specs.Nurseries.{broods_of}
use Rattle.kom_state.specs.Laws.{ChannelsAreNumbered}
use Rattle.kom_lang.specs.declared.body.Effect.TheVariants as effect
use Rattle.kom_record.specs.Instances.{born}
use Rattle.kom_changes.specs.Sown.{Creates}
use Rattle.kom_comps.specs.Members.{Members, has}
use Rattle.kom_lang.specs.Declarations.{Declarations}
use Rattle.kom_marks.specs.Marking.{IsMarked}
use Rattle.kom_numbers.specs.Numbering.{Numbering, channel_at, leads_out, total, wire_among}
use Rattle.kom_numbers.proofs.Ownership.{unowned, sum_is}
use Rattle.kom_record.specs.Channels.{Environment, Own, channels}
use Rattle.kom_refine.specs.Firsts.{front_for}
use Rattle.kom_refine.specs.Points.{acts_at, act_of, node_of, receiver_of}
use Rattle.kom_refine.specs.States.{Link, Queue, State}
use Rattle.kom_refine.specs.Steps.{empty_queue, row_with}
use Rattle.kom_state.specs.Facts.{HoldsTogether, is_of_living}
use Rattle.kom_state.specs.Parts.{Parts, link_seen, state_of}
use Rattle.kom_state.specs.Plantings.{IsPlanted, items_of}
use Rattle.kom_wakes.specs.Work.{HasSameWork}
use Rattle.kom_changes.proofs.Below.{isnt_true, not_both}

-- no queue beyond a number
abbrev pub NoneFrom : ℕ → State → Type 0
NoneFrom chans m = (x : ℕ) (d : Dir) → chans ≤ x → m.queues x d ≡ None

nothing_in : (c : ℕ) (d : Dir) (o : Option Link) → is_some (front_for c (option_map (empty_queue d) o)) ≡ false
nothing_in c d None = refl
nothing_in c d (Some l) = go (option_map_or (λ r. r == c) (empty_queue d l).receiver false)
  where
    go : (b : Bool) → is_some {T = EntryNo} (if b then None else None) ≡ false
    go true = refl
    go false = refl

below_or : {X : Type 0} (x n : ℕ) (a b : X) → n ≤ x → (if nat_lt x n then a else b) ≡ b
below_or x n a b l = ap (λ t. if t then a else b) (isnt_true (nat_lt x n) (λ t. let k = ltb-true x n t in omega (arith, k, l)))

-- one instance that is planted leaves the others
planted_leaves : (S : Declarations) (count chans : ℕ) (s : Seed) (m n : State) (c : ℕ) → IsPlanted S count chans s.place s.body s.init s.links m n → (c == count) ≡ false → NoneFrom chans m → HasSameWork m n c
planted_leaves S count chans s m n c r apart none = record {
  row = r.controls c ∙ ap (λ b. if b then Some (row_with S (items_of s.init) s.body) else m.controls c) apart;
  fronts = λ x d. go x d (nat_lt x chans) refl;
}
  where
    go : (x : ℕ) (d : Dir) (t : Bool) → nat_lt x chans ≡ t → is_some (front_for c (n.queues x d)) ≡ is_some (front_for c (m.queues x d))
    go x d true e = ap (λ q. is_some (front_for c q)) (r.queues x d ∙ ap (λ t. if t then m.queues x d else option_map (empty_queue d) (n.links x)) e)
    go x d false e =
        ap (λ q. is_some (front_for c q)) (r.queues x d ∙ ap (λ t. if t then m.queues x d else option_map (empty_queue d) (n.links x)) e)
        ∙ nothing_in c d (n.links x) ∙ sym (ap (λ q. is_some (front_for c q)) (none x d (ltb-false x chans e)))

planted_none : (S : Declarations) (count chans : ℕ) (s : Seed) (m n : State) → IsPlanted S count chans s.place s.body s.init s.links m n → NoneFrom (chans + length s.links) n
planted_none S count chans s m n r x d l =
    let low : chans ≤ x = omega (arith, l) in
    let past = slice_get_past s.links (x - chans) (omega (arith, l)) in
    let no_link : n.links x ≡ None = r.links_now x ∙ below_or x chans (m.links x) (option_map link_seen (slice_get s.links (x - chans))) low ∙ ap (option_map link_seen) past in
    r.queues x d ∙ below_or x chans (m.queues x d) (option_map (empty_queue d) (n.links x)) low ∙ ap (option_map (empty_queue d)) no_link

-- and so do several
pub sown_leaves : (S : Declarations) (count chans : ℕ) (seeds : List Seed) (m n : State) (c : ℕ) → AreSown S count chans seeds m n → (c < count) ⊎ (count + length seeds ≤ c) → NoneFrom chans m → HasSameWork m n c
sown_leaves S count chans [] m n c same out none = subst (λ k. HasSameWork m k c) same (record { row = refl; fronts = λ x d. refl })
sown_leaves S count chans (s ∷ ss) m n c r out none =
    let k = r.0 in
    let one = planted_leaves S count chans s m k c r.1 (isnt_true (c == count) (λ e. let q = eqb-true c count e in apart q out)) none in
    let rest = sown_leaves S (count + 1) (chans + length s.links) ss k n c r.2 (still out) (planted_none S count chans s m k r.1) in
    record { row = rest.row ∙ one.row; fronts = λ x d. rest.fronts x d ∙ one.fronts x d }
  where
    apart : c ≡ count → (c < count) ⊎ (count + length (s ∷ ss) ≤ c) → ⊥
    apart q (inl l) = omega (arith, q, l)
    apart q (inr l) = omega (arith, q, l)

    still : (c < count) ⊎ (count + length (s ∷ ss) ≤ c) → (c < count + 1) ⊎ (count + 1 + length ss ≤ c)
    still (inl l) = inl (omega (arith, l))
    still (inr l) = inr (omega (arith, l))

-- behind the last channel there is no queue
no_wire : (n : Numbering) (x : ℕ) → total n ≤ x → channel_at n x ≡ None
no_wire n x l = at (nat_lt x (length n.outs)) refl
  where
    at : (b : Bool) → nat_lt x (length n.outs) ≡ b → (if b then Some (Environment x) else option_map (λ (q : ℕ × ℕ). Own q.0 q.1) (if b then None else wire_among 0 n.counts (x - length n.outs))) ≡ None
    at true e = absurd (let k = ltb-true x (length n.outs) e in omega (arith, k, l))
    at false e = ap (option_map (λ (q : ℕ × ℕ). Own q.0 q.1)) (unowned 0 n.counts (x - length n.outs) (let s = sum_is n.counts in omega (arith, l, s)))

pub none_from_total : (v : Parts) → HoldsTogether v → NoneFrom (total v.numbers) (state_of v)
none_from_total v h x d l = go ((state_of v).queues x d) (leads_out v.numbers x d) ((state_of v).links x) (h.links_living x ∙ ap (λ o. option_map_or (is_of_living (state_of v)) o false) (no_wire v.numbers x l)) (h.receivers x d)
  where
    go : (q : Option Queue) (b : Bool) (o : Option Link) → is_some o ≡ false → option_map (λ (q : Queue). q.receiver) q ≡ (if b then None else option_map (receiver_of d) o) → q ≡ None
    go None b o e r = refl
    go (Some q) true o e r = absurd cc
    go (Some q) false None e r = absurd cc
    go (Some q) false (Some k) e r = absurd cc

-- the marks of all that is planted
pub sown_marked : (S : Declarations) (v w : Parts) (seeds : List Seed) (old new : Members) → HoldsTogether v → AreSown S (length (state_of v).nodes) (total v.numbers) seeds (state_of v) (state_of w)
    → ((d : ℕ) → has new d ≡ ((nat_le (length (state_of v).nodes) d && nat_lt d (length (state_of v).nodes + length seeds)) || has old d)) → length new.list ≤ length old.list + length seeds → new.bound ≡ old.bound
    → IsMarked (length seeds) old new (state_of v) (state_of w)
sown_marked S v w seeds old new h r each few bound = record {
  leaves = λ c e.
      let t = both_false (is_new c) (has old c) (sym (each c) ∙ e) in
      (t.1, sown_leaves S first (total v.numbers) seeds (state_of v) (state_of w) c r (outside c t.0) (none_from_total v h));
  few = few;
  bound = bound;
}
  where
    first : ℕ
    first = length (state_of v).nodes

    is_new : ℕ → Bool
    is_new c = nat_le (length (state_of v).nodes) c && nat_lt c (length (state_of v).nodes + length seeds)

    both_false : (a b : Bool) → (a || b) ≡ false → (a ≡ false) × (b ≡ false)
    both_false true b e = absurd cc
    both_false false b e = (refl, e)

    outside : (c : ℕ) → is_new c ≡ false → (c < first) ⊎ (first + length seeds ≤ c)
    outside c e = at (nat_le (length (state_of v).nodes) c) (nat_lt c (length (state_of v).nodes + length seeds)) refl refl e
      where
        at : (a b : Bool) → nat_le (length (state_of v).nodes) c ≡ a → nat_lt c (length (state_of v).nodes + length seeds) ≡ b → (a && b) ≡ false → (c < first) ⊎ (first + length seeds ≤ c)
        at false b p q e = inl (let l = leb-false first c p in omega (arith, l))
        at true true p q e = absurd cc
        at true false p q e = inr (ltb-false c (first + length seeds) q)

-- one number more in a row of marks
pub marks_next : (old mid new : Members) (first c : ℕ) → first ≤ c → ((d : ℕ) → has mid d ≡ ((nat_le first d && nat_lt d c) || has old d)) → ((d : ℕ) → has new d ≡ (d == c || has mid d)) → (d : ℕ) → has new d ≡ ((nat_le first d && nat_lt d (c + 1)) || has old d)
marks_next old mid new first c low was now d = now d ∙ ap (λ b. d == c || b) (was d) ∙ at (d == c) refl
  where
    at : (b : Bool) → (d == c) ≡ b → (b || ((nat_le first d && nat_lt d c) || has old d)) ≡ ((nat_le first d && nat_lt d (c + 1)) || has old d)
    at true e =
        let q = eqb-true d c e in
        sym (ap (λ b. (b && nat_lt d (c + 1)) || has old d) (le-leb first d (omega (arith, q, low))) ∙ ap (λ b. b || has old d) (lt-ltb d (c + 1) (omega (arith, q))))
    at false e = ap (λ b. (nat_le first d && b) || has old d) (less (nat_lt d c) refl)
      where
        differ : d ≡ c → ⊥
        differ q = elim (eqb_tells d c) [ inl t ↦ not_both (d == c) t.0 e | inr f ↦ f.1 q ]

        less : (b : Bool) → nat_lt d c ≡ b → nat_lt d c ≡ nat_lt d (c + 1)
        less true t = t ∙ sym (lt-ltb d (c + 1) (let l = ltb-true d c t in omega (arith, l)))
        less false t = t ∙ sym (isnt_true (nat_lt d (c + 1)) (λ u. let l = ltb-true d (c + 1) u in let k = ltb-false d c t in differ (omega (arith, l, k))))

-- no marks in an empty row
pub marks_none : (old : Members) (first : ℕ) (d : ℕ) → has old d ≡ ((nat_le first d && nat_lt d first) || has old d)
marks_none old first d = sym (ap (λ b. b || has old d) (isnt_true (nat_le first d && nat_lt d first) (λ t. let b = both (nat_le first d) (nat_lt d first) t in let l = leb-true first d b.0 in let k = ltb-true d first b.1 in omega (arith, l, k))))

-- the first of the broods, where there is one
pub first_brood : {X : Type 0} (x y : X) (xs ys zs : List X) → zs ≡ x ∷ xs → zs ≡ y ∷ ys → (y ≡ x) × (ys ≡ xs)
first_brood x y xs ys zs e f = let g : y ∷ ys ≡ x ∷ xs = sym f ∙ e in (cc, cc)

same_head : {X : Type 0} (x y : X) (xs ys : List X) → x ∷ xs ≡ y ∷ ys → x ≡ y
same_head x y xs ys e = cc

same_tail : {X : Type 0} (x y : X) (xs ys : List X) → x ∷ xs ≡ y ∷ ys → xs ≡ ys
same_tail x y xs ys e = cc

-- what is planted of the first brood is the step of its Create
pub create_step : (S : Declarations) (v w : Parts) (broods left : List (List Seed)) (brood : List Seed) → CreationsAreSown → ChannelsAreNumbered → HoldsTogether v → broods ≡ brood ∷ left
    → AreSown S (length (state_of v).nodes) (total v.numbers) brood (state_of v) (state_of w) → TakesRooms brood (length (state_of v).nodes) v w → Creates S broods left v w
create_step S v w broods left brood creations numbering together first sown took p c item slot kind birth es of stands by lives empty is =
    let done = acts_at p in
    let counted = (numbering S done v of stands.nodes).counted in
    let long : length (state_of v).nodes ≡ length (born S done) = ap length stands.nodes ∙ length-map (born S done) node_of in
    let k = creations S p c item slot kind birth v stands together by lives empty in
    let tree = seeds_for S (length (born S done)) (news_of S done c slot kind birth) in
    let later = broods_of S (act_of c item (effect.Create slot kind birth) ∷ done) c item es in
    let both : brood ∷ left ≡ tree ∷ later = sym first ∙ is in
    let seeds = same_head brood tree left later both in
    let now = subst (λ b. AreSown S (length (born S done)) (length (channels S done)) b (state_of v) (state_of w)) seeds
    (subst (λ n. AreSown S n (length (channels S done)) brood (state_of v) (state_of w)) long (subst (λ x. AreSown S (length (state_of v).nodes) x brood (state_of v) (state_of w)) (sym counted) sown)) in
    let room = subst (λ b. TakesRooms b (length (born S done)) v w) seeds (subst (λ n. TakesRooms brood n v w) long took) in
    record {
      step = k.created w now;
      left_is = same_tail brood tree left later both;
      numbers = k.numbers w of now room;
    }
