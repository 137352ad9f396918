-- The values of a list of expressions, of which the first ones are known.
use Rattle.std.proofs.Common.{ℕ, ℤ, List, ◌++◌, Result, Ok}
use Rattle.kom_base.specs.Lists.{on_ok}

-- the known values, and those of the other expressions after them
abbrev pub prefixed : List ℤ → Result (List ℤ) ℕ → Result (List ℤ) ℕ
prefixed known others = on_ok others (λ vs. Ok (known ++ vs))
