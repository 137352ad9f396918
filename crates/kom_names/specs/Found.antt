-- Lists of names with a place for each.
use Rattle.std.specs.Prelude.{ℕ, List, [], ◌∷◌, if◌then◌else◌, Option, Some, None, bytes_eq}
use Rattle.kom_rules.specs.Names.{Name}

-- the place noted with a name
abbrev pub place_in : List (Name × ℕ) → Name → Option ℕ
place_in [] q = None
place_in (e ∷ rest) q = if bytes_eq q e.0 then Some e.1 else place_in rest q
