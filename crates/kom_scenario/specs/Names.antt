-- Names with the numbers that they stand for.
use Rattle.std.specs.Prelude.{◌≡◌, ℕ, List, [], ◌∷◌, Option, Some, None, bytes_eq, if◌then◌else◌}
use Rattle.std.specs.Borrow.{Bor}

abbrev pub listed : List (Bor (List ℕ) × ℕ) → List (List ℕ × ℕ)
listed [] = []
listed (e ∷ es) = (e.0.now, e.1) ∷ listed es

-- the number of a name
abbrev pub found : List (List ℕ × ℕ) → List ℕ → Option ℕ
found [] q = None
found (e ∷ es) q = if bytes_eq q e.0 then Some e.1 else found es q

-- the names are found by this function
abbrev pub Knows : List (List ℕ × ℕ) → (List ℕ → Option ℕ) → Type 0
Knows names f = (q : List ℕ) → found names q ≡ f q
