-- A loop that takes numbers out of a list.
use Rattle.std.proofs.Common.{◌≡◌, ℕ, zero, suc, ◌<◌, Bool, false, List, [], ◌∷◌, ◌++◌, length, take, drop, get_or, filter, refl, ap, arith}
use Rattle.std.specs.List.{remove}

-- where the member at i fails the test, it makes no difference to what passes from there on
pub filter_after-remove : (p : ℕ → Bool) (xs : List ℕ) (i : ℕ) → i < length xs → p (get_or xs i 0) ≡ false → take i (remove xs i) ++ filter p (drop i (remove xs i)) ≡ take i xs ++ filter p (drop i xs)
filter_after-remove p [] i h e = absurd (omega (arith, h))
filter_after-remove p (x ∷ xs) zero h e = rw e refl
filter_after-remove p (x ∷ xs) (suc i) h e = ap (λ (ys : List ℕ). x ∷ ys) (filter_after-remove p xs i (omega (arith, h)) e)
