-- A stable sort by time.
use Rattle.std.proofs.Common.{◌≡◌, ℕ, suc, ◌≤◌, Bool, true, false, ◌&&◌, ◌==◌, List, [], ◌∷◌, map, refl, sym, ◌∙◌, ap, arith}
use Rattle.std.specs.Prelude.{nat_le, nat_lt, not, filter, cond}
use Rattle.std.specs.List.{list_all, list_any}
use Rattle.std.specs.List.Sorted.{IsPermutation, IsNonDecreasingBy, IsStableByKey, ties}
use Rattle.std.specs.Ordering.{nat_cmp, is_lt}
use Rattle.std.specs.declared.cmp.Ordering.TheVariants.{Equal, Greater}
use Rattle.std.proofs.lemmas.List.Sorted.{list_any-IsPermutation}
use Rattle.std.proofs.lemmas.Bool.Decides.{nat_tests}
use Rattle.kom_record.specs.declared.plan.Raise.{Raise}
use Rattle.kom_record.specs.Plans.{does_not_fall}
use Rattle.kom_expand.specs.Expansion.{at_time}

-- ---- order

pub rises : (xs : List Raise) → IsNonDecreasingBy (λ r. r.time) xs → does_not_fall (map (λ r. r.time) xs) ≡ true
rises [] e = refl
rises (x ∷ []) e = refl
rises (x ∷ y ∷ ys) e =
    let first : x.time ≤ y.time = e 0 1 x (omega arith) (omega arith) in
    let test : nat_le x.time y.time ≡ true = grind (arith, nat_tests) in
    let rest = rises (y ∷ ys) (λ i j d up less. e (suc i) (suc j) d (omega (arith, up)) (omega (arith, less))) in
    rw (test, rest) refl

-- ---- those of one time

an_event : ℕ → Raise
an_event t = record { time = t; chan = 0; event = record { kind = 0; values = [] } }

lt_is : (a b : ℕ) → is_lt (nat_cmp a b) ≡ nat_lt a b
lt_is a b = by_lt (nat_lt a b) refl where
  by_eq : (e : Bool) → is_lt (cond e Equal Greater) ≡ false
  by_eq true = refl
  by_eq false = refl

  by_lt : (l : Bool) → nat_lt a b ≡ l → is_lt (nat_cmp a b) ≡ nat_lt a b
  by_lt true e = rw e refl
  by_lt false e = rw e (by_eq (a == b))

apart : (a b : ℕ) → (not (nat_lt a b) && not (nat_lt b a)) ≡ (b == a)
apart a b = grind (arith, nat_tests)

ties_by : (t : ℕ) (y : Raise) → ties (λ a b. is_lt (nat_cmp a.time b.time)) (an_event t) y ≡ (y.time == t)
unfolding an_event
ties_by t y = rw (lt_is t y.time, lt_is y.time t) (apart t y.time)

filter_same : {A : Type 0} (p q : A → Bool) → ((x : A) → p x ≡ q x) → (xs : List A) → filter p xs ≡ filter q xs
filter_same p q e [] = refl
filter_same p q e (x ∷ xs) = rw (e x, filter_same p q e xs) refl

pub same_times : (xs ys : List Raise) → IsStableByKey (λ r. r.time) nat_cmp xs ys → (t : ℕ) → at_time t ys ≡ at_time t xs
same_times xs ys stable t = sym (filter_same _ _ (ties_by t) ys) ∙ stable (an_event t) ∙ filter_same _ _ (ties_by t) xs

-- ---- what holds of all holds of all in another order

all_none : {A : Type 0} (p : A → Bool) (xs : List A) → list_all p xs ≡ not (list_any (λ x. not (p x)) xs)
all_none p [] = refl
all_none p (x ∷ xs) = by_case (p x) refl (all_none p xs) where
  by_case : (b : Bool) → p x ≡ b → list_all p xs ≡ not (list_any (λ x. not (p x)) xs) → list_all p (x ∷ xs) ≡ not (list_any (λ x. not (p x)) (x ∷ xs))
  by_case true e ih = rw e ih
  by_case false e ih = rw e refl

pub all_moved : {A : Type 0} (p : A → Bool) (xs ys : List A) → IsPermutation xs ys → list_all p xs ≡ list_all p ys
all_moved p xs ys moved = all_none p xs ∙ ap not (list_any-IsPermutation (λ x. not (p x)) xs ys moved) ∙ sym (all_none p ys)
