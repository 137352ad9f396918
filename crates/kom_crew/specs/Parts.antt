-- Parts of a list.
use Rattle.std.specs.Prelude.{ℕ, List, [], ◌∷◌}

-- the first is the second with some left out
pub data IsPart : List ℕ → List ℕ → Type 0 where
  none : IsPart [] []
  kept : (c : ℕ) {xs ys : List ℕ} → IsPart xs ys → IsPart (c ∷ xs) (c ∷ ys)
  left_out : (c : ℕ) {xs ys : List ℕ} → IsPart xs ys → IsPart xs (c ∷ ys)
