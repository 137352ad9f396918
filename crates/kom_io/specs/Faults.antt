-- Counts of faults. A count that stands at the last number of its type stands still.
use Rattle.std.specs.Prelude.{◌≡◌, ◌≢◌, ◌+◌, ◌≤◌, ℕ, List, min}

-- the greatest u64
abbrev pub last_count : ℕ
last_count = 18446744073709551615

-- a fault was counted: the count rose, or it stands at the end
abbrev pub Rose : ℕ → ℕ → Type 0
Rose before after = min (before + 1) last_count ≤ after

-- no count fell, and no other name's changed
pub record RisesOnlyAt (name : List ℕ) (before after : List ℕ → ℕ) : Type 0 where
  pub never_falls : (n : List ℕ) → before n ≤ after n
  pub others : (n : List ℕ) → n ≢ name → after n ≡ before n
