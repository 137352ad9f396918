-- Counts that stand still at the end of their type.
use Rattle.std.specs.Prelude.{◌+◌, ◌≤◌, min, ℕ}

-- the greatest u64
abbrev pub last_count : ℕ
last_count = 18446744073709551615

-- the count rose, or it stands at the end of its type
abbrev pub Rose : ℕ → ℕ → Type 0
Rose before after = min (before + 1) last_count ≤ after
