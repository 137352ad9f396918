-- Event types by their rows: ancestors, subtypes and attributes.
use Rattle.std.specs.Prelude.{ℕ, zero, suc, Bool, false, ◌==◌, List, [], ◌∷◌, length, slice_get, sum_by, Option}
use Rattle.std.specs.List.{list_any}
use Rattle.std.specs.Option.{option_and_then, option_map_or}
use Rattle.kom_events.specs.declared.event_types.EventRow.{EventRow}

-- the parent of an event type
abbrev pub parent_of : List EventRow → ℕ → Option ℕ
parent_of rows a = option_and_then (λ row. row.parent) (slice_get rows a)

-- the type itself, its parent, the parent of that and so on, as far as there are rows for them:
-- the first n of them
abbrev pub ancestors : ℕ → List EventRow → ℕ → List ℕ
ancestors zero rows a = []
ancestors (suc n) rows a = option_map_or (λ row. a ∷ option_map_or (ancestors n rows) row.parent []) (slice_get rows a) []

-- a is b or a descendant of b: b is reached from a by parent steps, none included. As many steps
-- as there are rows reach all that can be reached.
abbrev pub kin : List EventRow → ℕ → ℕ → Bool
kin rows a b = list_any (λ c. c == b) (ancestors (length rows) rows a)

-- the type is a proper ancestor of itself
abbrev pub is_on_cycle : List EventRow → ℕ → Bool
is_on_cycle rows a = option_map_or (λ p. kin rows p a) (parent_of rows a) false

-- how many attributes one row adds
abbrev pub own_attributes : List EventRow → ℕ → ℕ
own_attributes rows a = option_map_or (λ row. row.own) (slice_get rows a) 0

-- how many attributes the events of a type have, inherited ones included
abbrev pub attributes : List EventRow → ℕ → ℕ
attributes rows a = sum_by (own_attributes rows) (ancestors (length rows) rows a)
