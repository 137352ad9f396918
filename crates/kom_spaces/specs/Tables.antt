-- Tables of names against the lists that they stand for.
use Rattle.std.specs.Prelude.{◌≡◌, ℕ, false, nat_lt, List, Option, position, bytes_eq}
use Rattle.std.specs.List.{flat_map}
use Rattle.std.specs.Option.{option_map_or}
use Rattle.kom_system.specs.declared.parts.Spot.{Spot}
use Rattle.kom_rules.specs.Names.{Name, at_if, first_place}
use Rattle.kom_names.specs.Found.{place_in}

-- the least place of a name among some
abbrev pub earliest : List Spot → Name → Option ℕ
earliest spots q = first_place (flat_map (λ s. at_if (bytes_eq q s.name) s.at) spots)

-- the place of a name that the table has at a lesser place
abbrev pub later_in : List (Name × ℕ) → Spot → List ℕ
later_in table s = at_if (option_map_or (λ a. nat_lt a s.at) (place_in table s.name) false) s.at

-- the table has the least place of each of the names
abbrev pub HasPlaces : List (Name × ℕ) → List Spot → Type 0
HasPlaces table spots = (q : Name) → place_in table q ≡ earliest spots q

-- the table has the number of each of the names
abbrev pub HasNumbers : List (Name × ℕ) → List Name → Type 0
HasNumbers table names = (q : Name) → place_in table q ≡ position (bytes_eq q) names
