-- Tables of numbers against the lists of names that they stand for.
use Rattle.std.specs.Prelude.{◌≡◌, ℕ, ◌+◌, List, [], ◌∷◌, Option, Some, None, if◌then◌else◌, bytes_eq}
use Rattle.kom_rules.specs.Names.{Name}
use Rattle.kom_names.specs.Found.{place_in}

-- the number of a name in a list whose first has the number n
abbrev pub number_from : ℕ → List Name → Name → Option ℕ
number_from n [] q = None
number_from n (x ∷ names) q = if bytes_eq q x then Some n else number_from (n + 1) names q

-- the table has the number of each of the names
abbrev pub HasNumbers : List (Name × ℕ) → List Name → Type 0
HasNumbers table names = (q : Name) → place_in table q ≡ number_from 0 names q
