-- Ancestors by a table of parents, and the names of attributes along a line of ancestors.
use Rattle.std.specs.Prelude.{◌≡◌, ℕ, zero, suc, List, [], ◌∷◌, length, map, reverse, slice_get, slice_index_or, Option}
use Rattle.std.specs.List.{flat_map}
use Rattle.std.specs.Option.{option_map_or}
use Rattle.kom_events.specs.declared.event_types.EventRow.{EventRow}
use Rattle.kom_rules.specs.Names.{Name}

-- the parent of each event type
abbrev pub parents_in : List EventRow → List (Option ℕ)
parents_in rows = map (λ row. row.parent) rows

-- an event type itself, its parent, the parent of that and so on: the first n of them
abbrev pub line_up : ℕ → List (Option ℕ) → ℕ → List ℕ
line_up zero parents a = []
line_up (suc n) parents a = option_map_or (λ parent. a ∷ option_map_or (line_up n parents) parent []) (slice_get parents a) []

-- the line of each event type, as long as there are event types at most
pub record AreLines (lines : List (List ℕ)) (parents : List (Option ℕ)) : Type 0 where
  pub count : length lines ≡ length parents
  pub each : (k : ℕ) → slice_index_or lines k [] ≡ line_up (length parents) parents k

-- the names that the event types of a line add, those of the last type first
abbrev pub names_along : List (List Name) → List ℕ → List Name
names_along own line = flat_map (λ a. slice_index_or own a []) (reverse line)
