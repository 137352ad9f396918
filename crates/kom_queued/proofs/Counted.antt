-- How many events wait, channel by channel.
use Rattle.std.proofs.Common.{◌≡◌, ◌≢◌, ℕ, zero, suc, ◌+◌, ◌<◌, ◌≤◌, Bool, true, false, if◌then◌else◌, ◌&&◌, refl, sym, ap, ◌∙◌, subst, List, [], ◌∷◌, length, Option, Some, None, inl, inr, arith, length-append}
use Rattle.std.specs.Prelude.{is_some, nat_lt}
use Rattle.std.specs.List.{enumerate_from, flat_map, sum_by}
use Rattle.std.specs.Option.{option_map, option_and_then}
use Rattle.std.proofs.lemmas.Bool.{cases_eq, eq-eqb, ne_eqb, lt-ltb, ltb-true}
use Rattle.std.proofs.lemmas.List.Sums.{sum_by-append}
use Rattle.kom_base.specs.declared.numbers.Dir.{Dir}
use Rattle.kom_base.specs.declared.numbers.Dir.TheVariants.{Plus, Minus}
use Rattle.kom_base.specs.declared.numbers.EntryNo.{EntryNo}
use Rattle.kom_base.specs.Numbers.{same_dir}
use Rattle.kom_record.specs.Entries.{acts}
use Rattle.kom_record.specs.Channels.{channels}
use Rattle.kom_record.specs.Ready.{directions}
use Rattle.kom_refine.specs.States.{Link, Queue, State}
use Rattle.kom_refine.specs.Steps.{HaveCome, empty_queue, received_by, with_numbers}
use Rattle.kom_state.specs.Steps.{into_one}
use Rattle.kom_wakes.specs.Laws.{QueuedIsCounted, queue_length}
use Rattle.kom_queued.specs.Counting.{waiting_at, waiting_below, waiting_in}
use Rattle.kom_queued.specs.Laws.{ComingsAddOne, CreationsAddNone, QueuedByState, RelinksHoldAsMany, RemovalsTakeTheirs, SameQueuesHoldAsMany}

-- ---- the sum over all directions

both : {X : Type 0} (f : ℕ × Dir → ℕ) (n : ℕ) (c : X) (cs : List X)
    → sum_by f (flat_map (λ (x : ℕ × X). (x.0, Plus) ∷ (x.0, Minus) ∷ []) (enumerate_from n (c ∷ cs))) ≡ (f (n, Plus) + f (n, Minus)) + sum_by f (flat_map (λ (x : ℕ × X). (x.0, Plus) ∷ (x.0, Minus) ∷ []) (enumerate_from (n + 1) cs))
both {X} f n c cs =
    let rest = sum_by f (flat_map (λ (x : ℕ × X). (x.0, Plus) ∷ (x.0, Minus) ∷ []) (enumerate_from (n + 1) cs)) in
    sum_by-append f ((n, Plus) ∷ (n, Minus) ∷ []) (flat_map (λ (x : ℕ × X). (x.0, Plus) ∷ (x.0, Minus) ∷ []) (enumerate_from (n + 1) cs))
    ∙ (let e : ((0 + f (n, Plus)) + f (n, Minus)) + rest ≡ (f (n, Plus) + f (n, Minus)) + rest = omega arith in e)

summed : {X : Type 0} (m : State) (n : ℕ) (cs : List X)
    → waiting_below m (n + length cs) ≡ waiting_below m n + sum_by (λ (x : ℕ × Dir). queue_length (m.queues x.0 x.1)) (flat_map (λ (x : ℕ × X). (x.0, Plus) ∷ (x.0, Minus) ∷ []) (enumerate_from n cs))
summed m n [] = ap (waiting_below m) (let e : n + 0 ≡ n = omega arith in e) ∙ (let e : waiting_below m n ≡ waiting_below m n + 0 = omega arith in e)
summed m n (c ∷ cs) =
    let a = ap (waiting_below m) (let e : n + suc (length cs) ≡ (n + 1) + length cs = omega arith in e) in
    let b = summed m (n + 1) cs in
    let d = ap (waiting_below m) (let e : n + 1 ≡ suc n = omega arith in e) in
    let f = both (λ (x : ℕ × Dir). queue_length (m.queues x.0 x.1)) n c cs in
    omega (arith, a, b, d, f)

pub queued_by : QueuedIsCounted → QueuedByState
unfolding directions
queued_by law S P m s =
    let a = law S P m s in
    let b = summed m 0 (channels S (acts P)) in
    let d = ap (waiting_below m) (let e : 0 + length (channels S (acts P)) ≡ length (channels S (acts P)) = omega arith in e) in
    omega (arith, a, b, d)

-- ---- the same in each channel

same_below : (m n : State) (k : ℕ) → ((x : ℕ) → x < k → waiting_at n x ≡ waiting_at m x) → waiting_below n k ≡ waiting_below m k
same_below m n zero h = refl
same_below m n (suc k) h =
    let a = same_below m n k (λ x l. h x (omega (arith, l))) in
    let b = h k (omega arith) in
    omega (arith, a, b)

-- in both directions
at_same : (m n : State) (x : ℕ) → ((d : Dir) → queue_length (n.queues x d) ≡ queue_length (m.queues x d)) → waiting_at n x ≡ waiting_at m x
at_same m n x h = let a = h Plus in let b = h Minus in omega (arith, a, b)

pub same_queues : SameQueuesHoldAsMany
same_queues m n k same = same_below m n k (λ x l. at_same m n x (λ d. ap queue_length (same x d)))

-- ---- a change of channels

kept_by : (d : Dir) (l : Option Link) (q : Option Queue) → (is_some q ≡ true → is_some l ≡ true) → queue_length (option_and_then (received_by d l) q) ≡ queue_length q
kept_by d l None h = refl
kept_by d None (Some q) h = absurd (let e = h refl in cc)
kept_by d (Some l) (Some q) h = refl

changed_some : (change : Link → Link) (l : Option Link) → is_some l ≡ true → is_some (option_map change l) ≡ true
changed_some change None e = absurd cc
changed_some change (Some l) e = refl

pub relinks : RelinksHoldAsMany
relinks names change m n k r links = same_below m n k (λ x l. at_same m n x (λ d. go x d (names x) refl))
  where
    go : (x : ℕ) (d : Dir) (b : Bool) → names x ≡ b → queue_length (n.queues x d) ≡ queue_length (m.queues x d)
    go x d true e =
        ap queue_length (r.queues x d ∙ ap (λ b. if b then option_and_then (received_by d (n.links x)) (m.queues x d) else m.queues x d) e)
        ∙ kept_by d (n.links x) (m.queues x d) (λ q. ap is_some (r.links x ∙ ap (λ b. if b then option_map change (m.links x) else m.links x) e) ∙ changed_some change (m.links x) (links x d q))
    go x d false e = ap queue_length (r.queues x d ∙ ap (λ b. if b then option_and_then (received_by d (n.links x)) (m.queues x d) else m.queues x d) e)

-- ---- one event more

none_more : (q : Option Queue) → queue_length (option_map (with_numbers []) q) ≡ queue_length q
none_more None = refl
none_more (Some q) = length-append q.numbers [] ∙ (let e : length q.numbers + 0 ≡ length q.numbers = omega arith in e)

one_more : (number : EntryNo) (q : Option Queue) → is_some q ≡ true → queue_length (option_map (with_numbers (number ∷ [])) q) ≡ queue_length q + 1
one_more number None e = absurd cc
one_more number (Some q) e = length-append q.numbers (number ∷ [])

module _ (x : ℕ) (number : EntryNo) (m n : State) where
  elsewhere : (d : Dir) → HaveCome (into_one x d number) m n → (y : ℕ) → y ≢ x → waiting_at n y ≡ waiting_at m y
  elsewhere d h y apart = at_same m n y (λ e.
      ap queue_length (h.queues y e ∙ ap (λ b. option_map (with_numbers (if b && same_dir d e then number ∷ [] else [])) (m.queues y e)) (ne_eqb y x apart))
      ∙ none_more (m.queues y e))

  here_plus : HaveCome (into_one x Plus number) m n → is_some (m.queues x Plus) ≡ true → waiting_at n x ≡ waiting_at m x + 1
  here_plus h there =
      let a = ap queue_length (h.queues x Plus ∙ ap (λ b. option_map (with_numbers (if b && true then number ∷ [] else [])) (m.queues x Plus)) (eq-eqb x x refl)) ∙ one_more number (m.queues x Plus) there in
      let b = ap queue_length (h.queues x Minus ∙ ap (λ b. option_map (with_numbers (if b && false then number ∷ [] else [])) (m.queues x Minus)) (eq-eqb x x refl)) ∙ none_more (m.queues x Minus) in
      omega (arith, a, b)

  here_minus : HaveCome (into_one x Minus number) m n → is_some (m.queues x Minus) ≡ true → waiting_at n x ≡ waiting_at m x + 1
  here_minus h there =
      let a = ap queue_length (h.queues x Minus ∙ ap (λ b. option_map (with_numbers (if b && true then number ∷ [] else [])) (m.queues x Minus)) (eq-eqb x x refl)) ∙ one_more number (m.queues x Minus) there in
      let b = ap queue_length (h.queues x Plus ∙ ap (λ b. option_map (with_numbers (if b && false then number ∷ [] else [])) (m.queues x Plus)) (eq-eqb x x refl)) ∙ none_more (m.queues x Plus) in
      omega (arith, a, b)

  at_own : (d : Dir) → HaveCome (into_one x d number) m n → is_some (m.queues x d) ≡ true → waiting_at n x ≡ waiting_at m x + 1
  at_own Plus h there = here_plus h there
  at_own Minus h there = here_minus h there

  one_below : (d : Dir) (k : ℕ) → HaveCome (into_one x d number) m n → is_some (m.queues x d) ≡ true → x < k → waiting_below n k ≡ waiting_below m k + 1
  one_below d zero h there low = absurd (omega (arith, low))
  one_below d (suc k) h there low = elim (cases_eq x k) [
    | inl e ↦
        let a = same_below m n k (λ y l. elsewhere d h y (λ f. absurd (omega (arith, e, l, f)))) in
        let b = subst (λ y. waiting_at n y ≡ waiting_at m y + 1) e (at_own d h there) in
        omega (arith, a, b)
    | inr f ↦
        let a = one_below d k h there (let g : x ≢ k = f in omega (arith, low, g)) in
        let b = elsewhere d h k (λ g. absurd (f (sym g))) in
        omega (arith, a, b)
  ]

pub comings : ComingsAddOne
comings x d number m n k h there low = one_below x number m n d k h there low

-- ---- a creation

empty_is : (d : Dir) (l : Option Link) → queue_length (option_map (empty_queue d) l) ≡ 0
empty_is d None = refl
empty_is d (Some l) = refl

pub creations : CreationsAddNone
creations S done count chans news m n k h low = go k low
  where
    old : (x : ℕ) → x < chans → waiting_at n x ≡ waiting_at m x
    old x l = at_same m n x (λ d. ap queue_length (h.queues x d ∙ ap (λ b. if b then m.queues x d else option_map (empty_queue d) (n.links x)) (lt-ltb x chans l)))

    new : (x : ℕ) → chans ≤ x → waiting_at n x ≡ 0
    new x l =
        let a = ap queue_length (h.queues x Plus ∙ ap (λ b. if b then m.queues x Plus else option_map (empty_queue Plus) (n.links x)) (not_lt x l)) ∙ empty_is Plus (n.links x) in
        let b = ap queue_length (h.queues x Minus ∙ ap (λ b. if b then m.queues x Minus else option_map (empty_queue Minus) (n.links x)) (not_lt x l)) ∙ empty_is Minus (n.links x) in
        omega (arith, a, b)
      where
        not_lt : (x : ℕ) → chans ≤ x → nat_lt x chans ≡ false
        not_lt x l = by (nat_lt x chans) refl
          where
            by : (b : Bool) → nat_lt x chans ≡ b → nat_lt x chans ≡ false
            by true e = absurd (let f = ltb-true x chans e in omega (arith, f, l))
            by false e = e

    go : (k : ℕ) → chans ≤ k → waiting_below n k ≡ waiting_below m chans
    go zero l = same_below m n 0 (λ x i. absurd (omega (arith, i))) ∙ ap (waiting_below m) (let e : 0 ≡ chans = omega (arith, l) in e)
    go (suc k) l = elim (cases_eq chans (suc k)) [
      | inl e ↦ same_below m n (suc k) (λ x i. old x (omega (arith, i, e))) ∙ ap (waiting_below m) (sym e)
      | inr f ↦
          let g : chans ≢ suc k = f in
          let a = go k (omega (arith, l, g)) in
          let b = new k (omega (arith, l, g)) in
          omega (arith, a, b)
    ]

-- ---- a removal

pub removals : RemovalsTakeTheirs
removals dies c slot m n k h = go k
  where
    at : (x : ℕ) (b : Bool) → dies x ≡ b → waiting_at n x + (if dies x then waiting_at m x else 0) ≡ waiting_at m x
    at x true e =
        let a = ap queue_length (h.queues x Plus ∙ ap (λ b. if b then None else m.queues x Plus) e) in
        let b = ap queue_length (h.queues x Minus ∙ ap (λ b. if b then None else m.queues x Minus) e) in
        let d = ap (λ b. if b then waiting_at m x else 0) e in
        omega (arith, a, b, d)
    at x false e =
        let a = ap queue_length (h.queues x Plus ∙ ap (λ b. if b then None else m.queues x Plus) e) in
        let b = ap queue_length (h.queues x Minus ∙ ap (λ b. if b then None else m.queues x Minus) e) in
        let d = ap (λ b. if b then waiting_at m x else 0) e in
        omega (arith, a, b, d)

    go : (k : ℕ) → waiting_below n k + waiting_in m dies k ≡ waiting_below m k
    go zero = refl
    go (suc k) = let a = go k in let b = at k (dies k) refl in omega (arith, a, b)
