-- A line of components, and who is in it.
use Rattle.std.specs.Prelude.{ℕ, not, ◌==◌, if◌then◌else◌, List, [], ◌∷◌, ◌++◌, filter, fold}
use Rattle.kom_base.specs.Lists.{holds_number}

-- each component where it stands last
abbrev pub last_of_each : List ℕ → List ℕ
last_of_each [] = []
last_of_each (c ∷ cs) = if holds_number cs c then last_of_each cs else c ∷ last_of_each cs

-- c is at the end, and nowhere else
abbrev pub at_end : List ℕ → ℕ → List ℕ
at_end cs c = filter (λ d. not (c == d)) cs ++ c ∷ []

-- these go to the end, one after another
abbrev pub all_at_end : List ℕ → List ℕ → List ℕ
all_at_end = fold at_end
