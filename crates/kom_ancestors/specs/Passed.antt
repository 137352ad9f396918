-- The names of attributes that are passed by so many steps to parents.
use Rattle.std.specs.Prelude.{◌≡◌, ◌<◌, ℕ, List, [], length, take, slice_index_or, Option}
use Rattle.std.specs.Option.{option_map_or}
use Rattle.kom_rules.specs.Names.{Name}
use Rattle.kom_tables.specs.Ancestry.{line_up, names_along}
use Rattle.kom_ancestors.specs.declared.passed.Steps.{Steps}
use Rattle.kom_ancestors.specs.Far.{to as leads, up}

-- the first 9 names of the line of so many types
abbrev pub passed : ℕ → List (Option ℕ) → List (List Name) → ℕ → List Name
passed n parents own k = take 9 (names_along own (line_up n parents k))

-- so many steps
pub record Passes (steps : Steps) (n : ℕ) (parents : List (Option ℕ)) (own : List (List Name)) : Type 0 where
  pub count : length steps.to ≡ length parents
  pub to : (k : ℕ) → k < length parents → leads steps.to k ≡ up n parents k
  pub as_many : length steps.names ≡ length parents
  pub names : (k : ℕ) → slice_index_or steps.names k [] ≡ passed n parents own k

-- the names of a type, if there is one
abbrev pub names_by : List (List Name) → Option ℕ → List Name
names_by names next = option_map_or (λ k. slice_index_or names k []) next []
