-- A set of numbers below a bound.
use Rattle.std.specs.Prelude.{◌≡◌, ◌≤◌, ℕ, Bool, true, false, List, Option, Some, None}
use Rattle.kom_base.specs.Lists.{holds_number}

-- the numbers in the set, each once, and a bound for them
pub record Members : Type 0 where
  pub list : List ℕ
  pub bound : ℕ

-- the number is in the set
unfoldable pub has : Members → ℕ → Bool
has m c = holds_number m.list c

-- the least number in the set; none where the set is empty
abbrev pub IsLeast : Members → Option ℕ → Type 0
IsLeast m None = (c : ℕ) → has m c ≡ false
IsLeast m (Some c) = (has m c ≡ true) × ((d : ℕ) → has m d ≡ true → c ≤ d)
