-- The line and the column of a byte, both from 1.
use Rattle.std.specs.Prelude.{ℕ, ◌+◌, ◌==◌, Bool, List, [], ◌∷◌, take, count_by, reverse, if◌then◌else◌}
use Rattle.kom_text.specs.Pieces.{is_not_newline}

-- how many bytes at the front pass the test
abbrev pub lead : (ℕ → Bool) → List ℕ → ℕ
lead test [] = 0
lead test (b ∷ bs) = if test b then 1 + lead test bs else 0

-- a newline ends a line
abbrev pub line_of : List ℕ → ℕ → ℕ
line_of text at = 1 + count_by (λ b. b == 10) (take at text)

-- counted in bytes from the last newline before it
abbrev pub column_of : List ℕ → ℕ → ℕ
column_of text at = 1 + lead is_not_newline (reverse (take at text))
