-- The way up a line of ancestors.
use Rattle.std.proofs.Common.{ℕ, suc, ◌<◌, Option, Some, None, List, length}
use Rattle.kom_tree.specs.Forest.{Instance}

-- one more than the number of the next ancestor
abbrev pub place_of : Option (ℕ × ℕ) → ℕ
place_of None = 0
place_of (Some q) = suc q.0

abbrev pub IsMade : List Instance → Option (ℕ × ℕ) → Type 0
IsMade is None = Unit {0}
IsMade is (Some q) = q.0 < length is
