-- Lines whose components stand in order.
use Rattle.std.proofs.Common.{◌≡◌, ℕ, ◌<◌, Bool, true, false, cond, not, ◌&&◌, ◌==◌, refl, sym, ap, ◌∙◌, subst, List, [], ◌∷◌, ◌++◌, filter, Option, Some, None, ◌⊎◌, inl, inr, arith}
use Rattle.std.specs.Prelude.{nat_lt, map}
use Rattle.std.proofs.lemmas.Bool.{and_parts, and_from, or_cases, or_left, or_right, both_ways, cases_Bool, not_from_false, not-true, lt-ltb, le-ltb, ltb-true, eqb-true, eq-eqb}
use Rattle.kom_base.specs.Lists.{holds_number, least, lesser}
use Rattle.kom_laws.proofs.Members.{IsIn, here, there, least_in}
use Rattle.kom_sim.specs.Line.{all_at_end}
use Rattle.kom_sim.specs.Order.{comes_first, StandInOrder, IsLine}
use Rattle.kom_sim.proofs.Lines.{AreDistinct, without, holds_filter, holds_append, at_end_of}

-- ---- rising numbers

abbrev pub Rising : List ℕ → Type 0
Rising [] = Unit {0}
Rising (c ∷ cs) = Rising cs × ((d : ℕ) → holds_number cs d ≡ true → nat_lt c d ≡ true)

held_by : (f : ℕ → Bool) (cs : List ℕ) (d : ℕ) → holds_number (filter f cs) d ≡ true → (f d ≡ true) × (holds_number cs d ≡ true)
held_by f cs d k = and_parts (f d) (holds_number cs d) (sym (holds_filter f cs d) ∙ k)

pub rising_filter : (f : ℕ → Bool) (cs : List ℕ) → Rising cs → Rising (filter f cs)
rising_filter f [] h = tt
rising_filter f (c ∷ cs) h = at (f c) (rising_filter f cs h.0)
  where
    at : (b : Bool) → Rising (filter f cs) → Rising (cond b (c ∷ filter f cs) (filter f cs))
    at true rest = (rest, λ d k. h.1 d (held_by f cs d k).1)
    at false rest = rest

pub distinct : (cs : List ℕ) → Rising cs → AreDistinct cs
distinct [] h = tt
distinct (c ∷ cs) h = (
  elim (cases_Bool (holds_number cs c)) [
    | inl k ↦ absurd (both_ways (nat_lt c c) (le-ltb c c (omega arith)) (h.1 c k))
    | inr k ↦ k
  ],
  distinct cs h.0,
)

-- ---- pairs

same_pairs : (m n c d : ℕ) → m ≡ n → nat_lt c d ≡ true → comes_first (m, c) (n, d) ≡ true
same_pairs m n c d e l = or_right (nat_lt m n) ((m == n) && nat_lt c d) (and_from (m == n) (nat_lt c d) (eq-eqb m n e) l)

pub earlier_pairs : (m n c d : ℕ) → m < n → comes_first (m, c) (n, d) ≡ true
earlier_pairs m n c d l = or_left (nat_lt m n) ((m == n) && nat_lt c d) (lt-ltb m n l)

-- one of two pairs alone is the lesser
one_lesser : (m n c d : ℕ) → comes_first (m, c) (n, d) ≡ true → comes_first (n, d) (m, c) ≡ true → ⊥
one_lesser m n c d a b = go (or_cases (nat_lt m n) ((m == n) && nat_lt c d) a) (or_cases (nat_lt n m) ((n == m) && nat_lt d c) b)
  where
    go : (nat_lt m n ≡ true) ⊎ (((m == n) && nat_lt c d) ≡ true) → (nat_lt n m ≡ true) ⊎ (((n == m) && nat_lt d c) ≡ true) → ⊥
    go (inl p) (inl q) = omega (arith, ltb-true m n p, ltb-true n m q)
    go (inl p) (inr q) = omega (arith, ltb-true m n p, eqb-true n m (and_parts _ _ q).0)
    go (inr p) (inl q) = omega (arith, eqb-true m n (and_parts _ _ p).0, ltb-true n m q)
    go (inr p) (inr q) = omega (arith, ltb-true c d (and_parts _ _ p).1, ltb-true d c (and_parts _ _ q).1)

-- ---- the least pair

in_front : (a x : ℕ × ℕ) (xs : List (ℕ × ℕ)) → x ≡ a → IsIn a (x ∷ xs)
in_front a x xs e = subst (λ y. IsIn a (y ∷ xs)) (sym e) here

behind : (a x : ℕ × ℕ) (xs : List (ℕ × ℕ)) → comes_first a x ≡ true → IsIn a (x ∷ xs) → IsIn a xs
behind a x xs e here = absurd (one_lesser a.0 a.0 a.1 a.1 e e)
behind a x xs e (there k) = k

first_of_two : (a x : ℕ × ℕ) (o : Option (ℕ × ℕ)) → a ≡ x → ((y : ℕ × ℕ) → o ≡ Some y → (a ≡ y) ⊎ (comes_first a y ≡ true)) → Some (lesser comes_first x o) ≡ Some a
first_of_two a x None e h = ap Some (sym e)
first_of_two a x (Some y) e h = at (comes_first y x) refl (h y refl)
  where
    at : (b : Bool) → comes_first y x ≡ b → (a ≡ y) ⊎ (comes_first a y ≡ true) → Some (cond b y x) ≡ Some a
    at true f (inl g) = ap Some (sym g)
    at true f (inr g) = absurd (one_lesser a.0 y.0 a.1 y.1 g (ap (comes_first y) e ∙ f))
    at false f g = ap Some (sym e)

-- a pair of a list that comes before all others of it is the least
least_of : (a : ℕ × ℕ) (xs : List (ℕ × ℕ)) → IsIn a xs → ((x : ℕ × ℕ) → IsIn x xs → (a ≡ x) ⊎ (comes_first a x ≡ true)) → least comes_first xs ≡ Some a
least_of a [] i h = elim i [ ]
least_of a (x ∷ xs) i h = at (h x here) (λ k. least_of a xs k (λ y j. h y (there j)))
  where
    at : (a ≡ x) ⊎ (comes_first a x ≡ true) → (IsIn a xs → least comes_first xs ≡ Some a) → Some (lesser comes_first x (least comes_first xs)) ≡ Some a
    at (inl e) rest = first_of_two a x (least comes_first xs) e (λ y k. h y (there (least_in comes_first xs y k)))
    at (inr e) rest = ap (λ o. Some (lesser comes_first x o)) (rest (behind a x xs e i)) ∙ ap (λ b. Some (cond b a x)) e

module _ (r : ℕ → Bool) (s : ℕ → ℕ) where
  pub order_filter : (f : ℕ → Bool) (cs : List ℕ) → StandInOrder r s cs → StandInOrder r s (filter f cs)
  order_filter f [] h = tt
  order_filter f (c ∷ cs) h = at (f c) (order_filter f cs h.0)
    where
      at : (b : Bool) → StandInOrder r s (filter f cs) → StandInOrder r s (cond b (c ∷ filter f cs) (filter f cs))
      at true rest = (rest, λ d k. h.1 d (held_by f cs d k).1)
      at false rest = rest

  order_append : (cs ds : List ℕ) → StandInOrder r s cs → StandInOrder r s ds
      → ((c d : ℕ) → holds_number cs c ≡ true → holds_number ds d ≡ true → r c ≡ true → r d ≡ true → comes_first (s c, c) (s d, d) ≡ true)
      → StandInOrder r s (cs ++ ds)
  order_append [] ds h k across = k
  order_append (c ∷ cs) ds h k across = (
    order_append cs ds h.0 k (λ a b i j. across a b (or_right (c == a) (holds_number cs a) i) j),
    λ d i rc rd. elim (or_cases (holds_number cs d) (holds_number ds d) (sym (holds_append cs ds d) ∙ i)) [
      | inl j ↦ h.1 d j rc rd
      | inr j ↦ across c d (or_left (c == c) (holds_number cs c) (eq-eqb c c refl)) j rc rd
    ],
  )

  -- those that became ready together stand in order of number
  order_together : (n : ℕ) (ws : List ℕ) → Rising ws → ((d : ℕ) → holds_number ws d ≡ true → s d ≡ n) → StandInOrder r s ws
  order_together n [] h k = tt
  order_together n (w ∷ ws) h k = (
    order_together n ws h.0 (λ d i. k d (or_right (w == d) (holds_number ws d) i)),
    λ d i rw rd. same_pairs (s w) (s d) w d (k w (or_left (w == w) (holds_number ws w) (eq-eqb w w refl)) ∙ sym (k d (or_right (w == d) (holds_number ws d) i))) (h.1 d i),
  )

  -- ---- the first of a line

  -- those behind the first, where it does not count
  pub behind_first : (c : ℕ) (cs : List ℕ) → IsLine r s (c ∷ cs) → IsLine (λ d. r d && not (c == d)) s cs
  behind_first c cs h = record {
    all = λ d k. elim (or_cases (c == d) (holds_number cs d) (h.all d (and_parts (r d) (not (c == d)) k).0)) [
      | inl e ↦ absurd (both_ways (c == d) (not-true (c == d) (and_parts (r d) (not (c == d)) k).1) e)
      | inr e ↦ e
    ];
    in_order = weaker cs h.in_order.0;
  }
    where
      weaker : (ds : List ℕ) → StandInOrder r s ds → StandInOrder (λ d. r d && not (c == d)) s ds
      weaker [] k = tt
      weaker (d ∷ ds) k = (weaker ds k.0, λ e i a b. k.1 e i (and_parts (r d) (not (c == d)) a).0 (and_parts (r e) (not (c == e)) b).0)

  -- the first is not ready, or does not count any more
  pub without_first : (c : ℕ) (cs : List ℕ) → IsLine r s (c ∷ cs) → r c ≡ false → IsLine r s cs
  without_first c cs h idle = record {
    all = λ d k. elim (or_cases (c == d) (holds_number cs d) (h.all d k)) [
      | inl e ↦ absurd (both_ways (r d) (ap r (sym (eqb-true c d e)) ∙ idle) k)
      | inr e ↦ e
    ];
    in_order = h.in_order.0;
  }

  -- the first of a line, if it is ready, comes before all others that are ready
  leads : (c : ℕ) (cs : List ℕ) → IsLine r s (c ∷ cs) → r c ≡ true → (d : ℕ) → r d ≡ true → (c ≡ d) ⊎ (comes_first (s c, c) (s d, d) ≡ true)
  leads c cs h rc d rd = elim (or_cases (c == d) (holds_number cs d) (h.all d rd)) [
    | inl e ↦ inl (eqb-true c d e)
    | inr e ↦ inr (h.in_order.1 d e rc rd)
  ]

  abbrev pairs : List ℕ → List (ℕ × ℕ)
  pairs ns = map (λ d. (s d, d)) (filter r ns)

  found_in : (n : ℕ) (ns : List ℕ) (x : ℕ × ℕ) (b : Bool) → r n ≡ b → IsIn x (map (λ d. (s d, d)) (cond b (n ∷ filter r ns) (filter r ns)))
      → (IsIn x (pairs ns) → (d : ℕ) × (r d ≡ true) × ((s d, d) ≡ x)) → (d : ℕ) × (r d ≡ true) × ((s d, d) ≡ x)
  found_in n ns x true e here rest = (n, e, refl)
  found_in n ns x true e (there k) rest = rest k
  found_in n ns x false e k rest = rest k

  from_pairs : (ns : List ℕ) (x : ℕ × ℕ) → IsIn x (pairs ns) → (d : ℕ) × (r d ≡ true) × ((s d, d) ≡ x)
  from_pairs [] x k = elim k [ ]
  from_pairs (n ∷ ns) x k = found_in n ns x (r n) refl k (from_pairs ns x)

  put_in : (c n : ℕ) (ns : List ℕ) (b : Bool) → r n ≡ b → r c ≡ true → (n ≡ c) ⊎ IsIn {X = ℕ × ℕ} (s c, c) (pairs ns) → IsIn {X = ℕ × ℕ} (s c, c) (map (λ d. (s d, d)) (cond b (n ∷ filter r ns) (filter r ns)))
  put_in c n ns true e rc (inl f) = in_front (s c, c) (s n, n) (pairs ns) (ap (λ m. (s m, m)) f)
  put_in c n ns true e rc (inr k) = there k
  put_in c n ns false e rc (inl f) = absurd (both_ways (r c) (ap r (sym f) ∙ e) rc)
  put_in c n ns false e rc (inr k) = k

  to_pairs : (c : ℕ) (ns : List ℕ) → holds_number ns c ≡ true → r c ≡ true → IsIn (s c, c) (pairs ns)
  to_pairs c [] i rc = absurd cc
  to_pairs c (n ∷ ns) i rc = put_in c n ns (r n) refl rc (elim (or_cases (n == c) (holds_number ns c) i) [
    | inl e ↦ inl (eqb-true n c e)
    | inr e ↦ inr (to_pairs c ns e rc)
  ])

  pub first_is_least : (c : ℕ) (cs ns : List ℕ) → IsLine r s (c ∷ cs) → r c ≡ true → holds_number ns c ≡ true → least comes_first (pairs ns) ≡ Some (s c, c)
  first_is_least c cs ns h rc i = least_of (s c, c) (pairs ns) (to_pairs c ns i rc) (λ x k.
      let d = from_pairs ns x k in
      elim (leads c cs h rc d.0 d.1) [
        | inl e ↦ inl (ap (λ m. (s m, m)) e ∙ d.2)
        | inr e ↦ inr (ap (comes_first (s c, c)) (sym d.2) ∙ e)
      ])

module _ (r q : ℕ → Bool) (s t : ℕ → ℕ) where
  order_kept : (cs : List ℕ) → ((d : ℕ) → holds_number cs d ≡ true → q d ≡ true → (r d ≡ true) × (t d ≡ s d)) → StandInOrder r s cs → StandInOrder q t cs
  order_kept [] k h = tt
  order_kept (c ∷ cs) k h = (
    order_kept cs (λ d i. k d (or_right (c == d) (holds_number cs d) i)) h.0,
    λ d i qc qd.
        let a = k c (or_left (c == c) (holds_number cs c) (eq-eqb c c refl)) qc in
        let b = k d (or_right (c == d) (holds_number cs d) i) qd in
        ap (λ m. comes_first (m, c) (t d, d)) a.1 ∙ ap (λ m. comes_first (s c, c) (m, d)) b.1 ∙ h.1 d i a.0 b.0,
  )

  out_of : (ws cs : List ℕ) (d : ℕ) → holds_number (without ws cs) d ≡ true → holds_number ws d ≡ false
  out_of ws cs d i = not-true (holds_number ws d) (held_by (λ e. not (holds_number ws e)) cs d i).0

  -- Those in ws became ready at n, all others that are ready were so before n and since then. So a
  -- line stays one when they go to its end.
  pub line_goes_on : (n : ℕ) (cs ws : List ℕ) → IsLine r s cs → Rising ws
      → ((d : ℕ) → q d ≡ true → holds_number ws d ≡ false → (r d ≡ true) × (t d ≡ s d))
      → ((d : ℕ) → holds_number ws d ≡ true → t d ≡ n)
      → ((d : ℕ) → holds_number cs d ≡ true → r d ≡ true → s d < n)
      → IsLine q t (all_at_end cs ws)
  line_goes_on n cs ws h rises as_before now earlier = record {
    all = λ d k. ap (λ l. holds_number l d) (at_end_of ws cs (distinct ws rises)) ∙ holds_append (without ws cs) ws d ∙ elim (cases_Bool (holds_number ws d)) [
      | inl i ↦ or_right (holds_number (without ws cs) d) (holds_number ws d) i
      | inr i ↦ or_left (holds_number (without ws cs) d) (holds_number ws d) (holds_filter (λ e. not (holds_number ws e)) cs d ∙ and_from (not (holds_number ws d)) (holds_number cs d) (not_from_false (holds_number ws d) i) (h.all d (as_before d k i).0))
    ];
    in_order = subst (λ l. StandInOrder q t l) (sym (at_end_of ws cs (distinct ws rises)))
        (order_append q t (without ws cs) ws
        (order_kept (without ws cs) (λ d i k. as_before d k (out_of ws cs d i)) (order_filter r s (λ e. not (holds_number ws e)) cs h.in_order))
        (order_together q t n ws rises now)
        (λ c d i j qc qd.
        let a = as_before c qc (out_of ws cs c i) in
        earlier_pairs (t c) (t d) c d (omega (arith, earlier c (held_by (λ e. not (holds_number ws e)) cs c i).1 a.0, a.1, now d j))));
  }
