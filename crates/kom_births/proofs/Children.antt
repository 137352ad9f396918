-- Who is found in a slot, one sprout more.
use Rattle.std.proofs.Common.{◌≡◌, ℕ, suc, ◌+◌, ◌<◌, ◌≤◌, Bool, true, false, refl, sym, ap, ◌∙◌, List, [], ◌∷◌, ◌++◌, length, get_or, take, Option, Some, None, if◌then◌else◌, arith}
use Rattle.std.proofs.lemmas.List.{take_all, take_more, length-take-le}
use Rattle.kom_base.specs.Lists.{either}
use Rattle.kom_births.specs.declared.sprout.Sprout.{Sprout}
use Rattle.kom_births.specs.Sprouts.{child_in, sits_in}

child_push : (p s n : ℕ) (xs : List Sprout) (y : Sprout) → child_in p s n (xs ++ y ∷ []) ≡ (if sits_in p s y.seat then Some (n + length xs) else child_in p s n xs)
child_push p s n [] y = at (sits_in p s y.seat)
  where
    at : (b : Bool) → (if b then Some n else None) ≡ (if b then Some (n + 0) else None)
    at true = ap Some (let e : n ≡ n + 0 = omega arith in e)
    at false = refl
child_push p s n (x ∷ xs) y =
    ap (λ o. either o (if sits_in p s x.seat then Some n else None)) (child_push p s (suc n) xs y)
    ∙ at (sits_in p s y.seat)
  where
    at : (b : Bool) → either (if b then Some (suc n + length xs) else child_in p s (suc n) xs) (if sits_in p s x.seat then Some n else None) ≡ (if b then Some (n + suc (length xs)) else either (child_in p s (suc n) xs) (if sits_in p s x.seat then Some n else None))
    at true = ap Some (let e : suc n + length xs ≡ n + suc (length xs) = omega arith in e)
    at false = refl

module _ (p s n : ℕ) (xs : List Sprout) (k : ℕ) (y : Sprout) (h : k < length xs) (e : y ≡ get_or xs k y) where
  next : take (k + 1) xs ≡ take k xs ++ y ∷ []
  next = take_more xs k y h ∙ ap (λ z. take k xs ++ z ∷ []) (sym e)

  pub found : (o : Option ℕ) → sits_in p s y.seat ≡ true → o ≡ Some (n + k) → o ≡ child_in p s n (take (k + 1) xs)
  found o t f =
      f ∙ ap (λ j. Some (n + j)) (let z : k ≡ length (take k xs) = omega (arith, h, length-take-le k xs (let q : k ≤ length xs = omega (arith, h) in q)) in z)
      ∙ sym (ap (λ b. if b then Some (n + length (take k xs)) else child_in p s n (take k xs)) t)
      ∙ sym (child_push p s n (take k xs) y) ∙ ap (child_in p s n) (sym next)

  pub passed : (o : Option ℕ) → sits_in p s y.seat ≡ false → o ≡ child_in p s n (take k xs) → o ≡ child_in p s n (take (k + 1) xs)
  passed o t f =
      f ∙ sym (ap (λ b. if b then Some (n + length (take k xs)) else child_in p s n (take k xs)) t)
      ∙ sym (child_push p s n (take k xs) y) ∙ ap (child_in p s n) (sym next)

pub all_of : (p s n : ℕ) (xs : List Sprout) (k : ℕ) (o : Option ℕ) → length xs ≤ k → o ≡ child_in p s n (take k xs) → o ≡ child_in p s n xs
all_of p s n xs k o h e = e ∙ ap (child_in p s n) (take_all k xs h)
