-- Whose channel has which number.
use Rattle.std.proofs.Common.{◌≡◌, ◌≢◌, ℕ, zero, suc, ◌+◌, ◌-◌, ◌<◌, ◌≤◌, Bool, true, false, cond, ◌&&◌, List, [], ◌∷◌, ◌++◌, length, take, Some, None, refl, sym, ap, ◌∙◌, arith, inl, inr, ⊎_elim, ◌⊎◌}
use Rattle.std.specs.Prelude.{slice_get, slice_index_or, nat_lt, nat_le, sum, ◌==◌}
use Rattle.std.specs.Option.{option_map_or}
use Rattle.std.proofs.lemmas.Bool.{ltb-true, ltb-false, lt-ltb, le-leb, leb-true, ne_eqb}
use Rattle.std.proofs.lemmas.Bool.Decides.{eqb_tells}
use Rattle.std.proofs.lemmas.List.Sums.{sum_by-cons}
use Rattle.kom_numbers.specs.declared.numbers.Span.{Span}
use Rattle.kom_base.specs.declared.numbers.Dir.{Dir}
use Rattle.std.proofs.lemmas.List.{length-map}
use Rattle.kom_numbers.specs.Numbering.{Numbering, wire_among, wire_at, is_pair, is_wire, is_of, first_of, count_of}
use Rattle.kom_numbers.specs.Spans.{counts_of, start_of}

-- the sum of a list, by recursion
abbrev pub added : List ℕ → ℕ
added [] = 0
added (n ∷ ns) = n + added ns

pub sum_is : (ns : List ℕ) → sum ns ≡ added ns
sum_is [] = refl
sum_is (n ∷ ns) = sum_by-cons (λ x. x) n ns ∙ ap (λ s. n + s) (sum_is ns)

-- the channels of one more instance
pub sum_more : (spans : List Span) (c : ℕ) (s : Span) → slice_get spans c ≡ Some s → added (take (suc c) (counts_of spans)) ≡ added (take c (counts_of spans)) + s.count
sum_more [] c s h = absurd (cc)
sum_more (t ∷ spans) zero s h = let e : t ≡ s = cc in let f : t.count ≡ s.count = ap (λ (u : Span). u.count) e in omega arith
sum_more (t ∷ spans) (suc c) s h = let e = sum_more spans c s h in omega (arith, e)

-- no more than all
pub sum_part : (ns : List ℕ) (c : ℕ) → added (take c ns) ≤ added ns
sum_part [] zero = omega arith
sum_part [] (suc c) = omega arith
sum_part (n ∷ ns) zero = omega arith
sum_part (n ∷ ns) (suc c) = omega (arith, sum_part ns c)

-- more instances have no fewer channels
pub sum_rises : (ns : List ℕ) (a b : ℕ) → a ≤ b → added (take a ns) ≤ added (take b ns)
sum_rises ns zero b h = omega arith
sum_rises [] (suc a) zero h = absurd (omega (arith, h))
sum_rises [] (suc a) (suc b) h = omega arith
sum_rises (n ∷ ns) (suc a) zero h = absurd (omega (arith, h))
sum_rises (n ∷ ns) (suc a) (suc b) h = omega (arith, sum_rises ns a b (omega (arith, h)))

pub sum_all : (ns : List ℕ) → added (take (length ns) ns) ≡ added ns
sum_all [] = refl
sum_all (n ∷ ns) = ap (λ s. n + s) (sum_all ns)

pub sum_end : (ns : List ℕ) (n : ℕ) → added (ns ++ n ∷ []) ≡ added ns + n
sum_end [] n = omega arith
sum_end (m ∷ ns) n = omega (arith, sum_end ns n)

pub take_front : (ns : List ℕ) (n c : ℕ) → c ≤ length ns → take c (ns ++ n ∷ []) ≡ take c ns
take_front ns n zero h = refl
take_front [] n (suc c) h = absurd (omega (arith, h))
take_front (m ∷ ns) n (suc c) h = ap (λ l. m ∷ l) (take_front ns n c (omega (arith, h)))

pub count_is : (spans : List Span) (c : ℕ) (s : Span) → slice_get spans c ≡ Some s → slice_index_or (counts_of spans) c 0 ≡ s.count
count_is [] c s h = absurd (cc)
count_is (t ∷ spans) zero s h = let e : t ≡ s = cc in ap (λ (u : Span). u.count) e
count_is (t ∷ spans) (suc c) s h = count_is spans c s h

by_less : {X : Type 0} (P : X → Type 0) (u v : X) (a b : ℕ) → (a < b → P u) → (b ≤ a → P v) → P (cond (nat_lt a b) u v)
by_less P u v a b below above = go (nat_lt a b) refl
  where
    go : (t : Bool) → nat_lt a b ≡ t → P (cond t u v)
    go true e = below (ltb-true a b e)
    go false e = above (ltb-false a b e)

pairs : (a b u v : ℕ) → a ≡ b → u ≡ v → ◌≡◌ {A = ℕ × ℕ} (a, u) (b, v)
pairs a b u v e f = ap {B = ℕ × ℕ} (λ z. (z, u)) e ∙ ap {B = ℕ × ℕ} (λ z. (b, z)) f

-- the owner of a channel
pub owned : (b : ℕ) (ns : List ℕ) (c y : ℕ) → c < length ns → added (take c ns) ≤ y → y < added (take (suc c) ns) → wire_among b ns y ≡ Some (b + c, y - added (take c ns))
owned b [] c y h low high = absurd (omega (arith, h))
owned b (n ∷ ns) zero y h low high = by_less (λ w. w ≡ Some (b + 0, y - 0)) (Some (b, y)) (wire_among (suc b) ns (y - n)) y n
    (λ l. let e : b ≡ b + 0 = omega arith in let f : y ≡ y - 0 = omega arith in ap (λ u. Some (u, y)) e ∙ ap (λ u. Some (b + 0, u)) f)
    (λ l. absurd (omega (arith, high, l)))
owned b (n ∷ ns) (suc c) y h low high = by_less (λ w. w ≡ Some (b + suc c, y - (n + added (take c ns)))) (Some (b, y)) (wire_among (suc b) ns (y - n)) y n
    (λ l. absurd (omega (arith, low, l)))
    (λ l.
    let e : suc b + c ≡ b + suc c = omega arith in
    let f : (y - n) - added (take c ns) ≡ y - (n + added (take c ns)) = omega arith in
    owned (suc b) ns c (y - n) (omega (arith, h)) (omega (arith, low, l)) (omega (arith, high, l)) ∙ ap (λ (q : ℕ × ℕ). Some q) (pairs (suc b + c) (b + suc c) ((y - n) - added (take c ns)) (y - (n + added (take c ns))) e f))

-- beyond the channels of all
pub unowned : (b : ℕ) (ns : List ℕ) (y : ℕ) → added ns ≤ y → wire_among b ns y ≡ None
unowned b [] y h = refl
unowned b (n ∷ ns) y h = by_less (λ w. w ≡ None) (Some (b, y)) (wire_among (suc b) ns (y - n)) y n
    (λ l. absurd (omega (arith, h, l)))
    (λ l. unowned (suc b) ns (y - n) (omega (arith, h, l)))

pub differ : (a b : ℕ) → a ≢ b → (a == b) ≡ false
differ a b n = ne_eqb a b n

-- no instance from b on is an earlier one
pub not_earlier : (b : ℕ) (ns : List ℕ) (c k y : ℕ) → c < b → option_map_or (is_pair c k) (wire_among b ns y) false ≡ false
not_earlier b [] c k y h = refl
not_earlier b (n ∷ ns) c k y h = by_less (λ w. option_map_or (is_pair c k) w false ≡ false) (Some (b, y)) (wire_among (suc b) ns (y - n)) y n
    (λ l. ap (λ t. t && k == y) (differ c b (λ e. absurd (omega (arith, e, h)))))
    (λ l. not_earlier (suc b) ns c k (y - n) (omega (arith, h)))

shift : (y n s : ℕ) → n ≤ y → ((y - n) == s) ≡ (y == (n + s))
shift y n s h = ⊎_elim
    (λ t. let e : y ≡ n + s = omega (arith, t.1, h) in t.0 ∙ sym (same y (n + s) e))
    (λ f. f.0 ∙ sym (differ y (n + s) (λ e. f.1 (omega (arith, e, h)))))
    (eqb_tells (y - n) s)
  where
    same : (a b : ℕ) → a ≡ b → (a == b) ≡ true
    same a b e = elim (eqb_tells a b) [ inl t ↦ t.0 | inr f ↦ absurd (f.1 e) ]

pub itself : (a : ℕ) → (a == a) ≡ true
itself a = elim (eqb_tells a a) [ inl t ↦ t.0 | inr f ↦ absurd (f.1 refl) ]

flip : (a b : ℕ) → (a == b) ≡ (b == a)
flip a b = elim (eqb_tells a b) [
  | inl t ↦ t.0 ∙ sym (ap (λ z. z == a) (sym t.1) ∙ itself a)
  | inr f ↦ f.0 ∙ sym (differ b a (λ e. f.1 (sym e)))
]

-- the channel k of an instance has one number
pub named : (b : ℕ) (ns : List ℕ) (c k y : ℕ) → k < slice_index_or ns c 0 → option_map_or (is_pair (b + c) k) (wire_among b ns y) false ≡ (y == (added (take c ns) + k))
named b [] zero k y h = absurd (omega (arith, h))
named b [] (suc c) k y h = absurd (omega (arith, h))
named b (n ∷ ns) zero k y h = by_less (λ w. option_map_or (is_pair (b + 0) k) w false ≡ (y == (0 + k))) (Some (b, y)) (wire_among (suc b) ns (y - n)) y n
    (λ l.
    let e : b + 0 ≡ b = omega arith in
    let f : k ≡ 0 + k = omega arith in
    ap (λ z. z == b && k == y) e ∙ ap (λ t. t && k == y) (itself b) ∙ flip k y ∙ ap (λ z. y == z) f)
    (λ l. not_earlier (suc b) ns (b + 0) k (y - n) (omega arith) ∙ sym (differ y (0 + k) (λ e. absurd (omega (arith, e, h, l)))))
named b (n ∷ ns) (suc c) k y h = by_less (λ w. option_map_or (is_pair (b + suc c) k) w false ≡ (y == (n + added (take c ns) + k))) (Some (b, y)) (wire_among (suc b) ns (y - n)) y n
    (λ l. ap (λ t. t && k == y) (differ (b + suc c) b (λ e. absurd (omega (arith, e)))) ∙ sym (differ y (n + added (take c ns) + k) (λ e. absurd (omega (arith, e, l)))))
    (λ l.
    let e : b + suc c ≡ suc b + c = omega arith in
    let f : n + (added (take c ns) + k) ≡ n + added (take c ns) + k = omega arith in
    ap (λ z. option_map_or (is_pair z k) (wire_among (suc b) ns (y - n)) false) e ∙ named (suc b) ns c k (y - n) h ∙ shift y n (added (take c ns) + k) l ∙ ap (λ z. y == z) f)

-- no instance from b on has a channel of an earlier one
not_of_earlier : (b : ℕ) (ns : List ℕ) (c y : ℕ) → c < b → option_map_or (λ q. c == q.0) (wire_among b ns y) false ≡ false
not_of_earlier b [] c y h = refl
not_of_earlier b (n ∷ ns) c y h = by_less (λ w. option_map_or (λ q. c == q.0) w false ≡ false) (Some (b, y)) (wire_among (suc b) ns (y - n)) y n
    (λ l. differ c b (λ e. absurd (omega (arith, e, h))))
    (λ l. not_of_earlier (suc b) ns c (y - n) (omega (arith, h)))

-- whether a number lies between two
abbrev within : ℕ → ℕ → ℕ → Bool
within a n y = nat_le a y && nat_lt y (a + n)

not_le : (a b : ℕ) → b < a → nat_le a b ≡ false
not_le a b h = go (nat_le a b) refl
  where
    go : (t : Bool) → nat_le a b ≡ t → nat_le a b ≡ false
    go true e = absurd (let l = leb-true a b e in omega (arith, l, h))
    go false e = e

not_lt : (a b : ℕ) → b ≤ a → nat_lt a b ≡ false
not_lt a b h = go (nat_lt a b) refl
  where
    go : (t : Bool) → nat_lt a b ≡ t → nat_lt a b ≡ false
    go true e = absurd (let l = ltb-true a b e in omega (arith, l, h))
    go false e = e

in_span : (a n y : ℕ) → a ≤ y → y < a + n → within a n y ≡ true
in_span a n y l h = ap (λ b. b && nat_lt y (a + n)) (le-leb a y l) ∙ lt-ltb y (a + n) h

not_below : (a n y : ℕ) → y < a → within a n y ≡ false
not_below a n y h = ap (λ b. b && nat_lt y (a + n)) (not_le a y h)

not_above : (a n y : ℕ) → a + n ≤ y → within a n y ≡ false
not_above a n y h = ap (λ b. nat_le a y && b) (not_lt y (a + n) h) ∙ none (nat_le a y)
  where
    none : (b : Bool) → (b && false) ≡ false
    none true = refl
    none false = refl

shift_span : (a n m y : ℕ) → m ≤ y → within a n (y - m) ≡ within (m + a) n y
shift_span a n m y h = by_less (λ (b : Bool). within a n (y - m) ≡ within (m + a) n y) true false 0 1
    (λ l. go (nat_lt y (m + a)) refl (nat_lt y (m + a + n)) refl)
    (λ l. absurd (omega (arith, l)))
  where
    go : (p : Bool) → nat_lt y (m + a) ≡ p → (q : Bool) → nat_lt y (m + a + n) ≡ q → within a n (y - m) ≡ within (m + a) n y
    go true e q f = let l = ltb-true y (m + a) e in not_below a n (y - m) (omega (arith, l, h)) ∙ sym (not_below (m + a) n y l)
    go false e true f = let l = ltb-false y (m + a) e in let k = ltb-true y (m + a + n) f in in_span a n (y - m) (omega (arith, l, h)) (omega (arith, k, h)) ∙ sym (in_span (m + a) n y l k)
    go false e false f = let k = ltb-false y (m + a + n) f in not_above a n (y - m) (omega (arith, k, h)) ∙ sym (not_above (m + a) n y k)

-- the channels of an instance are those of its span
pub of_one : (b : ℕ) (ns : List ℕ) (c y : ℕ) → c < length ns → option_map_or (λ q. (b + c) == q.0) (wire_among b ns y) false ≡ within (added (take c ns)) (slice_index_or ns c 0) y
of_one b [] c y h = absurd (omega (arith, h))
of_one b (n ∷ ns) zero y h = by_less (λ w. option_map_or (λ q. (b + 0) == q.0) w false ≡ within 0 n y) (Some (b, y)) (wire_among (suc b) ns (y - n)) y n
    (λ l. let e : b + 0 ≡ b = omega arith in ap (λ z. z == b) e ∙ itself b ∙ sym (in_span 0 n y (omega arith) (omega (arith, l))))
    (λ l. not_of_earlier (suc b) ns (b + 0) (y - n) (omega arith) ∙ sym (not_above 0 n y (omega (arith, l))))
of_one b (n ∷ ns) (suc c) y h = by_less (λ w. option_map_or (λ q. (b + suc c) == q.0) w false ≡ within (n + added (take c ns)) (slice_index_or ns c 0) y) (Some (b, y)) (wire_among (suc b) ns (y - n)) y n
    (λ l. differ (b + suc c) b (λ e. absurd (omega (arith, e))) ∙ sym (not_below (n + added (take c ns)) (slice_index_or ns c 0) y (omega (arith, l))))
    (λ l.
    let e : b + suc c ≡ suc b + c = omega arith in
    ap (λ z. option_map_or (λ q. z == q.0) (wire_among (suc b) ns (y - n)) false) e ∙ of_one (suc b) ns c (y - n) (omega (arith, h)) ∙ shift_span (added (take c ns)) (slice_index_or ns c 0) n y l)

-- the span of the instance c ends where the next one begins
pub ends_at : (outs : List Dir) (spans : List Span) (c : ℕ) (s : Span) → slice_get spans c ≡ Some s → start_of outs spans (suc c) ≡ start_of outs spans c + s.count
ends_at outs spans c s h = omega (arith, sum_is (take (suc c) (counts_of spans)), sum_is (take c (counts_of spans)), sum_more spans c s h)

-- a later span begins no earlier
pub begins_later : (outs : List Dir) (spans : List Span) (a b : ℕ) → a ≤ b → start_of outs spans a ≤ start_of outs spans b
begins_later outs spans a b h = omega (arith, sum_is (take a (counts_of spans)), sum_is (take b (counts_of spans)), sum_rises (counts_of spans) a b h)

pub below_total : (outs : List Dir) (spans : List Span) (c : ℕ) → start_of outs spans c ≤ length outs + sum (counts_of spans)
below_total outs spans c = omega (arith, sum_is (take c (counts_of spans)), sum_is (counts_of spans), sum_part (counts_of spans) c)

pub at_total : (outs : List Dir) (spans : List Span) → start_of outs spans (length spans) ≡ length outs + sum (counts_of spans)
at_total outs spans =
    let e : length spans ≡ length (counts_of spans) = sym (length-map spans (λ (s : Span). s.count)) in
    ap (λ c. start_of outs spans c) e ∙ ap (λ k. length outs + k) (sum_is (take (length (counts_of spans)) (counts_of spans)) ∙ sum_all (counts_of spans) ∙ sym (sum_is (counts_of spans)))

module _ (n : Numbering) where
  -- the wire of a channel by its owner
  pub wire_is : (spans : List Span) (c x : ℕ) → n.counts ≡ counts_of spans → c < length spans → start_of n.outs spans c ≤ x → x < start_of n.outs spans (suc c) → wire_at n x ≡ Some (c, x - start_of n.outs spans c)
  wire_is spans c x e h low high =
      let ns = counts_of spans in
      let long : length ns ≡ length spans = length-map spans (λ (s : Span). s.count) in
      let z : 0 + c ≡ c = omega arith in
      let f : (x - length n.outs) - added (take c ns) ≡ x - start_of n.outs spans c = omega (arith, sum_is (take c ns), low) in
      by_less (λ w. w ≡ Some (c, x - start_of n.outs spans c)) None (wire_among 0 n.counts (x - length n.outs)) x (length n.outs)
      (λ l. absurd (omega (arith, l, low)))
      (λ l. ap (λ m. wire_among 0 m (x - length n.outs)) e
      ∙ owned 0 ns c (x - length n.outs) (omega (arith, h, long)) (omega (arith, low, sum_is (take c ns))) (omega (arith, l, high, sum_is (take (suc c) ns)))
      ∙ ap (λ u. Some (u, (x - length n.outs) - added (take c ns))) z ∙ ap (λ u. Some (c, u)) f)

  pub wire_none : (spans : List Span) (x : ℕ) → n.counts ≡ counts_of spans → (x < length n.outs) ⊎ (start_of n.outs spans (length spans) ≤ x) → wire_at n x ≡ None
  wire_none spans x e h = by_less (λ w. w ≡ None) None (wire_among 0 n.counts (x - length n.outs)) x (length n.outs)
      (λ l. refl)
      (λ l. elim h [
        | inl before ↦ absurd (omega (arith, before, l))
        | inr after ↦ ap (λ m. wire_among 0 m (x - length n.outs)) e ∙ unowned 0 (counts_of spans) (x - length n.outs) (omega (arith, l, after, at_total n.outs spans, sum_is (counts_of spans)))
      ])

  -- the number of the channel k of the instance c, and of no other channel
  pub names_one : (c k x : ℕ) → k < count_of n c → is_wire n c k x ≡ (x == (first_of n c + k))
  names_one c k x h = by_less (λ w. option_map_or (is_pair c k) w false ≡ (x == (first_of n c + k))) None (wire_among 0 n.counts (x - length n.outs)) x (length n.outs)
      (λ l. sym (differ x (first_of n c + k) (λ e. absurd (omega (arith, e, l)))))
      (λ l.
      let z : 0 + c ≡ c = omega arith in
      let f : length n.outs + (added (take c n.counts) + k) ≡ first_of n c + k = omega (arith, sum_is (take c n.counts)) in
      ap (λ u. option_map_or (is_pair u k) (wire_among 0 n.counts (x - length n.outs)) false) (sym z)
      ∙ named 0 n.counts c k (x - length n.outs) h ∙ shift x (length n.outs) (added (take c n.counts) + k) l ∙ ap (λ u. x == u) f)

  pub owns : (c x : ℕ) → c < length n.counts → is_of n c x ≡ within (first_of n c) (count_of n c) x
  owns c x h = by_less (λ w. option_map_or (λ q. c == q.0) w false ≡ within (first_of n c) (count_of n c) x) None (wire_among 0 n.counts (x - length n.outs)) x (length n.outs)
      (λ l. sym (not_below (first_of n c) (count_of n c) x (omega (arith, l))))
      (λ l.
      let z : 0 + c ≡ c = omega arith in
      let f : length n.outs + added (take c n.counts) ≡ first_of n c = omega (arith, sum_is (take c n.counts)) in
      ap (λ u. option_map_or (λ q. u == q.0) (wire_among 0 n.counts (x - length n.outs)) false) (sym z)
      ∙ of_one 0 n.counts c (x - length n.outs) h
      ∙ shift_span (added (take c n.counts)) (count_of n c) (length n.outs) x l
      ∙ ap (λ a. within a (count_of n c) x) f)
