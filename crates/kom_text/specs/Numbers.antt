-- The value of a run of decimal digits.
use Rattle.std.specs.Prelude.{ℕ, ◌+◌, ◌-◌, ◌*◌, List, [], ◌∷◌}

-- the value so far, and the digits after it
abbrev pub decimal_from : ℕ → List ℕ → ℕ
decimal_from v [] = v
decimal_from v (d ∷ ds) = decimal_from (v * 10 + (d - 48)) ds

abbrev pub decimal : List ℕ → ℕ
decimal ds = decimal_from 0 ds

-- the greatest number that a file may write: 9223372036854775807
abbrev pub greatest : ℕ
greatest = 9223372036854775807
