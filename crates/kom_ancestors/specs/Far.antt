-- Steps by a table of where each leads.
use Rattle.std.specs.Prelude.{◌≡◌, ◌≤◌, ℕ, zero, suc, Bool, false, ◌==◌, List, length, map, slice_index_or, Option, Some, None}
use Rattle.std.specs.Option.{option_and_then, option_map_or}

-- where one step leads
abbrev pub to : List (Option ℕ) → ℕ → Option ℕ
to table a = slice_index_or table a None

-- where so many steps lead
abbrev pub up : ℕ → List (Option ℕ) → ℕ → Option ℕ
up zero table a = Some a
up (suc n) table a = option_and_then (up n table) (to table a)

-- the table of the steps of one table and then of those of another
abbrev pub joined_to : List (Option ℕ) → List (Option ℕ) → List (Option ℕ)
joined_to first after = map (option_and_then (to after)) first

-- a table of at least as many steps at once as the first one is long
pub record LeadsFar (table parents : List (Option ℕ)) : Type 0 where
  pub steps : ℕ
  pub enough : length parents ≤ steps
  pub count : length table ≡ length parents
  pub leads : (a : ℕ) → to table a ≡ up steps parents a

abbrev pub leads_to : ℕ → Option ℕ → Bool
leads_to b next = option_map_or (λ c. c == b) next false
