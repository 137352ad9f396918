-- The raises by place.
use Rattle.std.proofs.Common.{◌≡◌, ◌≢◌, ℕ, suc, ◌+◌, ◌-◌, ◌<◌, ◌≤◌, Bool, true, false, cond, not, ◌&&◌, eqb, ltb, leb, List, [], ◌∷◌, ◌++◌, map, length, Option, Some, None, Ordering, ◌⊎◌, ⊎_elim, refl, sym, ap, ◌∙◌, subst, arith, length-append, append_assoc}
use Rattle.std.specs.List.{filter}
use Rattle.std.specs.Ordering.{nat_cmp, is_lt, is_eq, ordering_then, ordering_reverse}
use Rattle.std.specs.Option.{IsSome, option_map}
use Rattle.std.specs.declared.cmp.Ordering.TheVariants.{Less, Equal, Greater}
use Rattle.std.specs.Cmp.{nat_cmp_total, tied_itself, ranked, nat_cmp_is}
use Rattle.std.proofs.lemmas.Bool.{eq-eqb, eqb-true, ne_eqb, lt-ltb, le-ltb, leb-true, cases_lt}
use Rattle.kom_base.specs.Lists.{least, lesser}
use Rattle.kom_index.specs.Entries.{AllKeys, Rises, has_key, value_of, between, is_between, inserted, without, first_from}
use Rattle.kom_record.specs.declared.plan.Raise.{Raise}
use Rattle.kom_record.specs.Plans.{does_not_fall}
use Rattle.kom_env.specs.declared.keys.Place.{Place}
use Rattle.kom_env.specs.Keys.{place_cmp, place_total}
use Rattle.kom_env.specs.Raised.{is_unraised, is_raised_at, raises_in, admitted, released, first_place, last_place, place_after, ArePlaced}
use Rattle.kom_env.proofs.Ties.{place_tied, equal_of, and_left, and_right}
use Rattle.kom_env.proofs.Rising.{Each, filter_same, filter_all, head_value, above_none}
use Rattle.kom_env.proofs.Leasts.{least_head}

pub below : (x y : ℕ) → x < y → nat_cmp x y ≡ Less
below x y h = sym (nat_cmp_is x y Less h)

pub above : (x y : ℕ) → y < x → nat_cmp x y ≡ Greater
above x y h = sym (nat_cmp_is x y Greater h)

by_place : (t u r s : ℕ) (c : Ordering) → nat_cmp t u ≡ c → place_cmp (record { time = t; rank = r }) (record { time = u; rank = s }) ≡ ordering_then c (nat_cmp r s)
by_place t u r s c e = ap (λ o. ordering_then o (nat_cmp r s)) e

same_time : (t u r s : ℕ) → t ≡ u → place_cmp (record { time = t; rank = r }) (record { time = u; rank = s }) ≡ nat_cmp r s
same_time t u r s e = by_place t u r s Equal (ap (nat_cmp t) (sym e) ∙ tied_itself nat_cmp_total t)

not_less_zero : (x : ℕ) → is_lt (nat_cmp x 0) ≡ false
not_less_zero x = at (nat_cmp x 0) refl
  where
    at : (c : Ordering) → nat_cmp x 0 ≡ c → is_lt (nat_cmp x 0) ≡ false
    at Less e = absurd (omega (arith, ranked x 0 Less (sym e)))
    at Equal e = ap is_lt e
    at Greater e = ap is_lt e

-- a raise stands before the bound where the last release has reached it
pub reached : (last : Option ℕ) (e : Place × Raise) (n : ℕ) → n ≤ 2000000000 → e.0.time ≡ e.1.time → e.0.rank < n → is_lt (place_cmp e.0 (place_after last)) ≡ not (is_unraised last e.1)
reached None e n few time rank = ⊎_elim
    (λ more. ap is_lt (by_place e.0.time 0 e.0.rank 0 Greater (above e.0.time 0 more)))
    (λ le. ap is_lt (same_time e.0.time 0 e.0.rank 0 (omega arith)) ∙ not_less_zero e.0.rank)
    (cases_lt 0 e.0.time)
reached (Some t) e n few time rank = ⊎_elim
    (λ less. ap is_lt (by_place e.0.time t e.0.rank 18446744073709551615 Less (below e.0.time t less)) ∙ ap not (sym (le-ltb t e.1.time (omega arith))))
    (λ le. ⊎_elim
    (λ more. ap is_lt (by_place e.0.time t e.0.rank 18446744073709551615 Greater (above e.0.time t more)) ∙ ap not (sym (lt-ltb t e.1.time (omega arith))))
    (λ ge. ap is_lt (same_time e.0.time t e.0.rank 18446744073709551615 (omega arith) ∙ below e.0.rank 18446744073709551615 (omega arith)) ∙ ap not (sym (le-ltb t e.1.time (omega arith))))
    (cases_lt t e.0.time))
    (cases_lt e.0.time t)

-- times do not fall where places rise
later : (n : ℕ) (e : Place × Raise) (es : List (Place × Raise)) → AllKeys (λ y. place_cmp e.0 y ≡ Less) es → ArePlaced n es → (p : Raise → Bool) → e.0.time ≡ e.1.time → Each (λ y. e.1.time ≤ y) (map (λ (r : Raise). r.time) (filter p (raises_in es)))
later n e [] up placed p time = tt
later n e (f ∷ fs) up placed p time = at (p f.1) refl (later n e fs up.1 placed.1 p time)
  where
    le : e.1.time ≤ f.1.time
    le = ⊎_elim
        (λ less. absurd (cc (up.0, by_place e.0.time f.0.time e.0.rank f.0.rank Greater (above e.0.time f.0.time (omega (arith, placed.0.0))))))
        (λ le. le)
        (cases_lt f.1.time e.1.time)

    at : (b : Bool) → p f.1 ≡ b → Each (λ y. e.1.time ≤ y) (map (λ (r : Raise). r.time) (filter p (raises_in fs))) → Each (λ y. e.1.time ≤ y) (map (λ (r : Raise). r.time) (filter p (raises_in (f ∷ fs))))
    at true s rest = subst (λ b. Each (λ y. e.1.time ≤ y) (map (λ (r : Raise). r.time) (cond b (f.1 ∷ filter p (raises_in fs)) (filter p (raises_in fs))))) (sym s) (le, rest)
    at false s rest = subst (λ b. Each (λ y. e.1.time ≤ y) (map (λ (r : Raise). r.time) (cond b (f.1 ∷ filter p (raises_in fs)) (filter p (raises_in fs))))) (sym s) rest

pub next_is : (last : Option ℕ) (n : ℕ) (es : List (Place × Raise)) → n ≤ 2000000000 → Rises place_cmp es → ArePlaced n es
    → least ltb (map (λ (r : Raise). r.time) (filter (is_unraised last) (raises_in es))) ≡ option_map (λ (p : Place). p.time) (option_map (λ (e : Place × Raise). e.0) (first_from place_cmp (place_after last) es))
next_is last n [] few rises placed = refl
next_is last n (e ∷ es) few rises placed = at (is_unraised last e.1) refl (next_is last n es few rises.1 placed.1)
  where
    rest_of : List ℕ
    rest_of = map (λ (r : Raise). r.time) (filter (is_unraised last) (raises_in es))

    lt : is_lt (place_cmp e.0 (place_after last)) ≡ not (is_unraised last e.1)
    lt = reached last e n few placed.0.0 placed.0.1

    at : (b : Bool) → is_unraised last e.1 ≡ b → least ltb (map (λ (r : Raise). r.time) (filter (is_unraised last) (raises_in es))) ≡ option_map (λ (p : Place). p.time) (option_map (λ (e : Place × Raise). e.0) (first_from place_cmp (place_after last) es))
        → least ltb (map (λ (r : Raise). r.time) (filter (is_unraised last) (raises_in (e ∷ es)))) ≡ option_map (λ (p : Place). p.time) (option_map (λ (e : Place × Raise). e.0) (first_from place_cmp (place_after last) (e ∷ es)))
    at true s rest =
        ap (λ b. least ltb (map (λ (r : Raise). r.time) (cond b (e.1 ∷ filter (is_unraised last) (raises_in es)) (filter (is_unraised last) (raises_in es))))) s
        ∙ least_head e.1.time _ (later n e es rises.0 placed.1 (is_unraised last) placed.0.0)
        ∙ ap Some (sym placed.0.0)
        ∙ sym (ap (λ b. option_map (λ (p : Place). p.time) (option_map (λ (e : Place × Raise). e.0) (cond (not b) (Some e) (first_from place_cmp (place_after last) es)))) (lt ∙ ap not s))
    at false s rest =
        ap (λ b. least ltb (map (λ (r : Raise). r.time) (cond b (e.1 ∷ filter (is_unraised last) (raises_in es)) (filter (is_unraised last) (raises_in es))))) s ∙ rest
        ∙ sym (ap (λ b. option_map (λ (p : Place). p.time) (option_map (λ (e : Place × Raise). e.0) (cond (not b) (Some e) (first_from place_cmp (place_after last) es)))) (lt ∙ ap not s))

-- the places between the bounds of a time are those of the raises of that time
in_time : (t : ℕ) (n : ℕ) (e : Place × Raise) → n ≤ 2000000000 → e.0.time ≡ e.1.time → e.0.rank < n → is_between place_cmp (first_place t) (last_place t) e ≡ is_raised_at t e.1
in_time t n e few time rank = ⊎_elim
    (λ less. ap (λ o. not (is_lt o) && not (is_lt (place_cmp (last_place t) e.0))) (by_place e.0.time t e.0.rank 0 Less (below e.0.time t less)) ∙ sym (ne_eqb e.1.time t (λ s. omega (arith, less, s))))
    (λ le. ⊎_elim
    (λ more. ap (λ o. not (is_lt (place_cmp e.0 (first_place t))) && not (is_lt o)) (by_place t e.0.time 18446744073709551615 e.0.rank Less (below t e.0.time more)) ∙ and_false (not (is_lt (place_cmp e.0 (first_place t)))) ∙ sym (ne_eqb e.1.time t (λ s. omega (arith, more, s))))
    (λ ge.
    let same : e.0.time ≡ t = omega arith in
    ap (λ o. not (is_lt o) && not (is_lt (place_cmp (last_place t) e.0))) (same_time e.0.time t e.0.rank 0 same)
    ∙ ap (λ b. not b && not (is_lt (place_cmp (last_place t) e.0))) (not_less_zero e.0.rank)
    ∙ ap (λ o. not (is_lt o)) (same_time t e.0.time 18446744073709551615 e.0.rank (sym same) ∙ above 18446744073709551615 e.0.rank (omega arith))
    ∙ sym (eq-eqb e.1.time t (omega arith)))
    (cases_lt t e.0.time))
    (cases_lt e.0.time t)
  where
    and_false : (b : Bool) → (b && false) ≡ false
    and_false true = refl
    and_false false = refl

pub at_is : (t n : ℕ) (es : List (Place × Raise)) → n ≤ 2000000000 → ArePlaced n es → between place_cmp (first_place t) (last_place t) es ≡ filter (λ (e : Place × Raise). is_raised_at t e.1) es
at_is t n es few placed = filter_same _ _ es (each es placed)
  where
    each : (es : List (Place × Raise)) → ArePlaced n es → Each (λ e. is_between place_cmp (first_place t) (last_place t) e ≡ is_raised_at t e.1) es
    each [] p = tt
    each (e ∷ es) p = (in_time t n e few p.0.0 p.0.1, each es p.1)

pub raises_filter : (p : Raise → Bool) (es : List (Place × Raise)) → raises_in (filter (λ (e : Place × Raise). p e.1) es) ≡ filter p (raises_in es)
raises_filter p [] = refl
raises_filter p (e ∷ es) = elim (p e.1) as (λ b. raises_in (cond b (e ∷ filter (λ (e : Place × Raise). p e.1) es) (filter (λ (e : Place × Raise). p e.1) es)) ≡ cond b (e.1 ∷ filter p (raises_in es)) (filter p (raises_in es))) [
  | true ↦ ap (λ l. e.1 ∷ l) (raises_filter p es)
  | false ↦ raises_filter p es
]

pub length-raises : (es : List (Place × Raise)) → length (raises_in es) ≡ length es
length-raises [] = refl
length-raises (e ∷ es) = ap suc (length-raises es)

-- ---- one raise more

abbrev pub behind : Raise → ℕ → Place
behind r n = record { time = r.time; rank = n }

-- the place behind all of its time is before another only where its time is
before_later : (r : Raise) (n : ℕ) (e : Place × Raise) → e.0.time ≡ e.1.time → e.0.rank < n → is_lt (place_cmp (behind r n) e.0) ≡ ltb r.time e.1.time
before_later r n e time rank = ⊎_elim
    (λ less. ap is_lt (by_place r.time e.0.time n e.0.rank Less (below r.time e.0.time less)) ∙ sym (lt-ltb r.time e.1.time (omega arith)))
    (λ le. ⊎_elim
    (λ more. ap is_lt (by_place r.time e.0.time n e.0.rank Greater (above r.time e.0.time more)) ∙ sym (le-ltb r.time e.1.time (omega arith)))
    (λ ge. ap is_lt (same_time r.time e.0.time n e.0.rank (omega arith) ∙ above n e.0.rank rank) ∙ sym (le-ltb r.time e.1.time (omega arith)))
    (cases_lt e.0.time r.time))
    (cases_lt r.time e.0.time)

pub admit_is : (r : Raise) (n : ℕ) (es : List (Place × Raise)) → ArePlaced n es → raises_in (inserted place_cmp (behind r n) r es) ≡ admitted r (raises_in es)
admit_is r n [] p = refl
admit_is r n (e ∷ es) p =
    ap (λ b. raises_in (cond b ((behind r n, r) ∷ e ∷ es) (e ∷ inserted place_cmp (behind r n) r es))) (before_later r n e p.0.0 p.0.1)
    ∙ elim (ltb r.time e.1.time) as (λ b. raises_in (cond b ((behind r n, r) ∷ e ∷ es) (e ∷ inserted place_cmp (behind r n) r es)) ≡ cond b (r ∷ e.1 ∷ raises_in es) (e.1 ∷ admitted r (raises_in es))) [
      | true ↦ refl
      | false ↦ ap (λ l. e.1 ∷ l) (admit_is r n es p.1)
    ]

pub no_place : (r : Raise) (n : ℕ) (es : List (Place × Raise)) → ArePlaced n es → value_of place_cmp (behind r n) es ≡ None
no_place r n [] p = refl
no_place r n (e ∷ es) p = at (has_key place_cmp (behind r n) e) refl (no_place r n es p.1)
  where
    at : (b : Bool) → has_key place_cmp (behind r n) e ≡ b → value_of place_cmp (behind r n) es ≡ None → value_of place_cmp (behind r n) (e ∷ es) ≡ None
    at true s rest = absurd (omega (arith, ap (λ (q : Place). q.rank) (place_tied (behind r n) e.0 s), p.0.1))
    at false s rest = ap (λ b. cond b (Some e.1) (value_of place_cmp (behind r n) es)) s ∙ rest

pub placed_wider : (n m : ℕ) → n ≤ m → (es : List (Place × Raise)) → ArePlaced n es → ArePlaced m es
placed_wider n m le [] p = tt
placed_wider n m le (e ∷ es) p = ((p.0.0, omega (arith, p.0.1)), placed_wider n m le es p.1)

pub placed_more : (r : Raise) (n k : ℕ) (es : List (Place × Raise)) → k < n → ArePlaced n es → ArePlaced n (inserted place_cmp (behind r k) r es)
placed_more r n k [] h p = ((refl, h), tt)
placed_more r n k (e ∷ es) h p = elim (is_lt (place_cmp (behind r k) e.0)) as (λ b. ArePlaced n (cond b ((behind r k, r) ∷ e ∷ es) (e ∷ inserted place_cmp (behind r k) r es))) [
  | true ↦ ((refl, h), p)
  | false ↦ (p.0, placed_more r n k es h p.1)
]

pub length-inserted : (k : Place) (r : Raise) (es : List (Place × Raise)) → length (inserted place_cmp k r es) ≡ length es + 1
length-inserted k r [] = refl
length-inserted k r (e ∷ es) = elim (is_lt (place_cmp k e.0)) as (λ b. length (cond b ((k, r) ∷ e ∷ es) (e ∷ inserted place_cmp k r es)) ≡ suc (length es) + 1) [
  | true ↦ omega arith
  | false ↦ omega (arith, length-inserted k r es)
]

-- ---- the first of all

pub from_zero : (p : Place) → is_lt (place_cmp p (first_place 0)) ≡ false
from_zero p = ⊎_elim
    (λ more. ap is_lt (by_place p.time 0 p.rank 0 Greater (above p.time 0 more)))
    (λ le. ap is_lt (same_time p.time 0 p.rank 0 (omega arith)) ∙ not_less_zero p.rank)
    (cases_lt 0 p.time)

pub none_first : (es : List (Place × Raise)) → None ≡ option_map (λ (e : Place × Raise). e.0) (first_from place_cmp (first_place 0) es) → es ≡ []
none_first [] h = refl
none_first (e ∷ es) h = absurd (cc (h, ap (λ b. option_map (λ (e : Place × Raise). e.0) (cond (not b) (Some e) (first_from place_cmp (first_place 0) es))) (from_zero e.0)))

-- what is left without the first
pub some_first : (es left : List (Place × Raise)) (p : Place) (r : Raise) → Rises place_cmp es → Some p ≡ option_map (λ (e : Place × Raise). e.0) (first_from place_cmp (first_place 0) es) → value_of place_cmp p es ≡ Some r
    → left ≡ without place_cmp p es → raises_in es ≡ r ∷ raises_in left
some_first [] left p r rises first is rest = absurd (cc)
some_first (e ∷ es) left p r rises first is rest =
    let head : Some p ≡ Some e.0 = first ∙ ap (λ b. option_map (λ (e : Place × Raise). e.0) (cond (not b) (Some e) (first_from place_cmp (first_place 0) es))) (from_zero e.0) in
    let same : p ≡ e.0 = cc in
    let value : e.1 ≡ r = cc (is, ap (λ q. value_of place_cmp q (e ∷ es)) same, head_value place_cmp place_total place_tied e es) in
    let gone : without place_cmp p (e ∷ es) ≡ es =
    ap (λ q. without place_cmp q (e ∷ es)) same ∙ ap (λ c. cond (not (is_eq c)) (e ∷ without place_cmp e.0 es) (without place_cmp e.0 es)) (tied_itself place_total e.0)
    ∙ filter_all (λ (f : Place × Raise). not (has_key place_cmp e.0 f)) es (apart es rises.0) in
    ap (λ x. x ∷ raises_in es) value ∙ ap (λ l. r ∷ raises_in l) (sym (rest ∙ gone))
  where
    apart : (fs : List (Place × Raise)) → AllKeys (λ y. place_cmp e.0 y ≡ Less) fs → Each (λ (f : Place × Raise). not (has_key place_cmp e.0 f) ≡ true) fs
    apart [] h = tt
    apart (f ∷ fs) h = (ap (λ c. not (is_eq c)) h.0, apart fs h.1)

-- ---- a calendar of the raises of a plan, from the last on

-- each rank is at least a bound
abbrev pub AreFrom : ℕ → List (Place × Raise) → Type 0
AreFrom n [] = Unit {0}
AreFrom n (e ∷ es) = (n ≤ e.0.rank) × AreFrom n es

pub same_keys : {A : Type 0} (xs ys : List A) → xs ≡ ys → map (λ (x : A). x) xs ≡ ys
same_keys [] ys e = e
same_keys (x ∷ xs) ys e = ap (λ l. x ∷ l) (same_keys xs xs refl) ∙ e

falls_after : (t : ℕ) (ts : List ℕ) → does_not_fall (t ∷ ts) ≡ true → does_not_fall ts ≡ true
falls_after t [] h = refl
falls_after t (u ∷ ts) h = and_right (leb t u) _ h

not_less : (t : ℕ) (ts : List ℕ) → does_not_fall (t ∷ ts) ≡ true → (m : ℕ) → m ≤ t → Each (λ u. m ≤ u) ts
not_less t [] h m le = tt
not_less t (u ∷ ts) h m le = let up : t ≤ u = leb-true t u (and_left (leb t u) _ h) in (omega arith, not_less u ts (falls_after t (u ∷ ts) h) m (omega arith))

-- the raises behind one of a plan are not sooner
not_sooner : (rs : List Raise) (r : Raise) (es : List (Place × Raise)) → does_not_fall (map (λ (r : Raise). r.time) (rs ++ r ∷ raises_in es)) ≡ true → Each (λ (e : Place × Raise). r.time ≤ e.1.time) es
not_sooner [] r es h = apart es (not_less r.time (map (λ (r : Raise). r.time) (raises_in es)) h r.time (omega arith))
  where
    apart : (es : List (Place × Raise)) → Each (λ u. r.time ≤ u) (map (λ (r : Raise). r.time) (raises_in es)) → Each (λ (e : Place × Raise). r.time ≤ e.1.time) es
    apart [] h = tt
    apart (e ∷ es) h = (h.0, apart es h.1)
not_sooner (q ∷ rs) r es h = not_sooner rs r es (falls_after q.time (map (λ (r : Raise). r.time) (rs ++ r ∷ raises_in es)) h)

-- a raise with a lesser rank stands before those that are not sooner
stands_before : (r : Raise) (k n m : ℕ) (es : List (Place × Raise)) → k < m → ArePlaced n es → AreFrom m es → Each (λ (e : Place × Raise). r.time ≤ e.1.time) es → AllKeys (λ y. place_cmp (behind r k) y ≡ Less) es
stands_before r k n m [] lt placed from sooner = tt
stands_before r k n m (e ∷ es) lt placed from sooner = (
  ⊎_elim
      (λ less. by_place r.time e.0.time k e.0.rank Less (below r.time e.0.time less))
      (λ le. same_time r.time e.0.time k e.0.rank (omega (arith, placed.0.0, sooner.0)) ∙ below k e.0.rank (omega (arith, from.0)))
      (cases_lt r.time e.0.time),
  stands_before r k n m es lt placed.1 from.1 sooner.1,
)

from_lower : (k m : ℕ) → k ≤ m → (es : List (Place × Raise)) → AreFrom m es → AreFrom k es
from_lower k m le [] h = tt
from_lower k m le (e ∷ es) h = (omega (arith, h.0), from_lower k m le es h.1)

-- one raise more is placed, from the last on
pub record Places (whole left : List Raise) (es new : List (Place × Raise)) : Type 0 where
  pub same : left ++ raises_in new ≡ whole
  pub rises : Rises place_cmp new
  pub placed : ArePlaced (length whole) new
  pub from : AreFrom (length left) new

module _ (whole was left : List Raise) (r : Raise) (es : List (Place × Raise)) (last : was ≡ left ++ r ∷ []) (same : was ++ raises_in es ≡ whole) (order : does_not_fall (map (λ (r : Raise). r.time) whole) ≡ true)
    (rises : Rises place_cmp es) (placed : ArePlaced (length whole) es) (from : AreFrom (length was) es) where
  parts : left ++ r ∷ raises_in es ≡ whole
  parts = sym (append_assoc left (r ∷ []) (raises_in es)) ∙ ap (λ l. l ++ raises_in es) (sym last) ∙ same

  shorter : length was ≡ length left + 1
  shorter = ap length last ∙ length-append left (r ∷ [])

  ahead : AllKeys (λ y. place_cmp (behind r (length left)) y ≡ Less) es
  ahead = stands_before r (length left) (length whole) (length was) es (omega (arith, shorter)) placed from (not_sooner left r es (ap (λ l. does_not_fall (map (λ (r : Raise). r.time) l)) parts ∙ order))

  pub place_free : value_of place_cmp (behind r (length left)) es ≡ None
  place_free = above_none place_cmp place_total place_tied (behind r (length left)) es ahead

  first_inserted : (fs : List (Place × Raise)) → AllKeys (λ y. place_cmp (behind r (length left)) y ≡ Less) fs → inserted place_cmp (behind r (length left)) r fs ≡ (behind r (length left), r) ∷ fs
  first_inserted [] h = refl
  first_inserted (f ∷ fs) h = ap (λ c. cond (is_lt c) ((behind r (length left), r) ∷ f ∷ fs) (f ∷ inserted place_cmp (behind r (length left)) r fs)) h.0

  pub one_placed : (new : List (Place × Raise)) → new ≡ inserted place_cmp (behind r (length left)) r es → Places whole left es new
  one_placed new e =
      let is : new ≡ (behind r (length left), r) ∷ es = e ∙ first_inserted es ahead in
      subst (Places whole left es) (sym is) (record {
        same = parts;
        rises = (ahead, rises);
        placed = ((refl, omega (arith, ap length parts, length-append left (r ∷ raises_in es))), placed);
        from = (omega arith, from_lower (length left) (length was) (omega (arith, shorter)) es from);
      })

pub map_released : (es : List (Place × Raise)) → map (λ (e : Place × Raise). released e.1) es ≡ map released (raises_in es)
map_released [] = refl
map_released (e ∷ es) = ap (λ l. released e.1 ∷ l) (map_released es)
