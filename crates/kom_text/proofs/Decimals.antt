-- A run of digits is worth at least its beginning.
use Rattle.std.proofs.Common.{ℕ, ◌+◌, ◌-◌, ◌*◌, ◌≤◌, List, [], ◌∷◌, arith}
use Rattle.kom_text.specs.Numbers.{decimal_from}

pub decimal-grows : (v : ℕ) (ds : List ℕ) → v ≤ decimal_from v ds
decimal-grows v [] = omega arith
decimal-grows v (d ∷ ds) = omega (arith, decimal-grows (v * 10 + (d - 48)) ds)
