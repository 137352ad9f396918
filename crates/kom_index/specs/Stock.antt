-- What an ordered map and a queue are seen as.
use Rattle.std.specs.Prelude.{ℕ, List}

-- the entries by rising key
abbrev pub entries : {K V : Type 0} → List (K × V) × ℕ → List (K × V)
entries m = m.0

-- the items, the first at the front
abbrev pub items : {A : Type 0} → List A × ℕ → List A
items q = q.0

-- for how many more there is room
abbrev pub spare : {A : Type 0} → List A × ℕ → ℕ
spare m = m.1
