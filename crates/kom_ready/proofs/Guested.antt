-- What changes with one of the guests of a lot.
use Rattle.std.proofs.Common.{◌≡◌, ◌≢◌, ℕ, zero, suc, ◌+◌, ◌<◌, ◌≤◌, List, [], ◌∷◌, length, set, get_or, map, Some, refl, sym, ap, ◌∙◌, subst, arith}
use Rattle.std.specs.Prelude.{Option, None, min, slice_get}
use Rattle.std.specs.List.{sum_by}
use Rattle.std.proofs.lemmas.List.Sums.{sum_by-cons}
use Rattle.kom_ready.specs.declared.guest.Guest.{Guest}
use Rattle.kom_ready.specs.Counts.{Rose, last_count}
use Rattle.kom_ready.specs.Guests.{found_in}

-- x at i becomes n
module _ {X : Type 0} (x n : X) where
  pub same_map : {D : Type 0} (f : X → D) (xs : List X) (i : ℕ) → i < length xs → x ≡ get_or xs i x → f n ≡ f x → map f (set xs i n) ≡ map f xs
  same_map f [] i lt at e = absurd (omega (arith, lt))
  same_map f (y ∷ ys) zero lt at e = ap (λ d. d ∷ map f ys) (e ∙ ap f at)
  same_map f (y ∷ ys) (suc i) lt at e = ap (λ ds. f y ∷ ds) (same_map f ys i (omega (arith, lt)) at e)

  pub weighs : (f : X → ℕ) (xs : List X) (i : ℕ) → i < length xs → x ≡ get_or xs i x → sum_by f (set xs i n) + f x ≡ sum_by f xs + f n
  weighs f [] i lt at = absurd (omega (arith, lt))
  weighs f (y ∷ ys) zero lt at =
      let a = sum_by-cons f n ys in
      let b = sum_by-cons f y ys in
      let e = ap f at in
      omega (arith, a, b, e)
  weighs f (y ∷ ys) (suc i) lt at =
      let a = sum_by-cons f y (set ys i n) in
      let b = sum_by-cons f y ys in
      let r = weighs f ys i (omega (arith, lt)) at in
      omega (arith, a, b, r)

-- the guest g at i becomes n
module _ (g n : Guest) where
  pub none_falls : (gs : List Guest) (i : ℕ) → i < length gs → g ≡ get_or gs i g → g.found ≤ n.found → (j : ℕ) → found_in gs j ≤ found_in (set gs i n) j
  none_falls [] i lt at le j = absurd (omega (arith, lt))
  none_falls (x ∷ xs) zero lt at le zero = let e = ap (λ (y : Guest). y.found) at in omega (arith, e, le)
  none_falls (x ∷ xs) zero lt at le (suc j) = omega arith
  none_falls (x ∷ xs) (suc i) lt at le zero = omega arith
  none_falls (x ∷ xs) (suc i) lt at le (suc j) = none_falls xs i (omega (arith, lt)) at le j

  pub rises : (gs : List Guest) (i : ℕ) → i < length gs → g ≡ get_or gs i g → Rose g.found n.found → Rose (found_in gs i) (found_in (set gs i n) i)
  rises [] i lt at rose = absurd (omega (arith, lt))
  rises (x ∷ xs) zero lt at rose = let e = ap (λ (y : Guest). y.found) at in subst (λ k. Rose k n.found) e rose
  rises (x ∷ xs) (suc i) lt at rose = rises xs i (omega (arith, lt)) at rose

  -- the counts of the other deques stay
  pub none_else : (gs : List Guest) (i j : ℕ) → j ≢ i → found_in (set gs i n) j ≡ found_in gs j
  none_else [] i j ne = refl
  none_else (x ∷ xs) zero zero ne = absurd (ne refl)
  none_else (x ∷ xs) zero (suc j) ne = refl
  none_else (x ∷ xs) (suc i) zero ne = refl
  none_else (x ∷ xs) (suc i) (suc j) ne = none_else xs i j (λ e. ne (ap suc e))

  pub counts_one : (gs : List Guest) (i : ℕ) → i < length gs → g ≡ get_or gs i g → n.found ≡ min (g.found + 1) last_count → found_in (set gs i n) i ≡ min (found_in gs i + 1) last_count
  counts_one [] i lt at e = absurd (omega (arith, lt))
  counts_one (x ∷ xs) zero lt at e = e ∙ ap (λ (y : Guest). min (y.found + 1) last_count) at
  counts_one (x ∷ xs) (suc i) lt at e = counts_one xs i (omega (arith, lt)) at e

-- the deques to which there are passes are those of the thieves
pub at_place : {X D : Type 0} (f : X → D) (gs : List X) (i : ℕ) (g : X) → i < length gs → g ≡ get_or gs i g → slice_get (map f gs) i ≡ Some (f g)
at_place f [] i g lt at = absurd (omega (arith, lt))
at_place f (x ∷ xs) zero g lt at = ap (λ y. Some (f y)) (sym at)
at_place f (x ∷ xs) (suc i) g lt at = at_place f xs i g (omega (arith, lt)) at

pub long_map : {X D : Type 0} (f : X → D) (xs : List X) → length (map f xs) ≡ length xs
long_map f [] = refl
long_map f (x ∷ xs) = ap suc (long_map f xs)

pub below_there : {X : Type 0} (xs : List X) (i : ℕ) (x : X) → slice_get xs i ≡ Some x → i < length xs
below_there [] i x e = absurd (cc e)
below_there (y ∷ ys) zero x e = omega arith
below_there (y ∷ ys) (suc i) x e = let r = below_there ys i x e in omega (arith, r)

or_else : {X : Type 0} → X → Option X → X
or_else d None = d
or_else d (Some x) = x

pub same_held : {X : Type 0} (x y : X) → Some x ≡ Some y → x ≡ y
unfolding or_else
same_held x y e = ap (or_else x) e

-- what an index reads stands there
pub stands_at : {X : Type 0} (xs : List X) (i : ℕ) (x : X) → i < length xs → x ≡ get_or xs i x → slice_get xs i ≡ Some x
stands_at [] i x lt at = absurd (omega (arith, lt))
stands_at (y ∷ ys) zero x lt at = ap Some (sym at)
stands_at (y ∷ ys) (suc i) x lt at = stands_at ys i x (omega (arith, lt)) at

-- each weighs one
pub ones : (xs : List ℕ) → sum_by (λ _. 1) xs ≡ length xs
ones [] = refl
ones (x ∷ xs) = let a = sum_by-cons (λ (_ : ℕ). 1) x xs in let r = ones xs in omega (arith, a, r)
