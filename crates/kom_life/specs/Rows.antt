-- What is kept of each instance.
use Rattle.std.specs.Prelude.{ℕ, ◌-◌, Bool, true, false, max, if◌then◌else◌, List, [], ◌∷◌, ◌++◌, drop, find, slice_get, Option, Some, None, is_some}
use Rattle.std.specs.Option.{option_map_or, option_and_then}
use Rattle.kom_base.specs.Lists.{first}
use Rattle.kom_index.specs.Stock.{items, spare}
use Rattle.kom_record.specs.declared.item.Control.{Control}
use Rattle.kom_life.specs.declared.row.Row.{Row}

-- what a living instance has: the control items that wait for it, whether it is active, and whether it catches faults
pub record Living : Type 0 where
  pub controls : List Control
  pub active : Bool
  pub catches : Bool

abbrev pub newborn : Living
newborn = record { controls = []; active = false; catches = false }

abbrev pub with_control : Control → Living → Living
with_control k l = record l { controls = l.controls ++ k ∷ [] }

abbrev pub without_first : Living → Living
without_first l = record l { controls = drop 1 l.controls }

abbrev pub with_flags : Bool → Bool → Living → Living
with_flags active catches l = record l { active = active; catches = catches }

-- ---- the rows by number

abbrev pub is_there : List Row → ℕ → Bool
is_there m c = option_map_or (λ r. r.living) (slice_get m c) false

-- room was reserved for the instance, or it is there
abbrev pub has_room : List Row → ℕ → Bool
has_room m c = is_some (slice_get m c)

-- for how many more items of an instance there is room
abbrev pub spare_of : List Row → ℕ → ℕ
spare_of m c = option_map_or (λ r. spare r.controls) (slice_get m c) 0

abbrev pub living_in : Row → Option Living
living_in r = if r.living then Some (record { controls = items r.controls; active = r.active; catches = r.catches }) else None

-- what an instance has, none where it is not there
abbrev pub living_of : List Row → ℕ → Option Living
living_of m c = option_and_then living_in (slice_get m c)

abbrev pub first_control : List Row → ℕ → Option Control
first_control m c = option_and_then (λ l. first l.controls) (living_of m c)

abbrev pub is_active : List Row → ℕ → Bool
is_active m c = option_map_or (λ l. l.active) (living_of m c) false

abbrev pub is_catching : List Row → ℕ → Bool
is_catching m c = option_map_or (λ l. l.catches) (living_of m c) false

-- the first in a line of ancestors that catches faults, with the slot there
abbrev pub nearest_of : List Row → List (ℕ × ℕ) → Option (ℕ × ℕ)
nearest_of m line = find (λ q. is_catching m q.0) line

-- ---- what is made of one row

abbrev pub blank : Row
blank = record { controls = ([], 0); living = false; active = false; catches = false }

abbrev pub with_room : Row → ℕ → Row
with_room r n = record r { controls = (items r.controls, max (spare r.controls) n) }

abbrev pub given : Control → Row → Row
given k r = record r { controls = (items r.controls ++ k ∷ [], spare r.controls - 1) }

abbrev pub relieved : Row → Row
relieved r = record r { controls = (drop 1 (items r.controls), spare r.controls) }

abbrev pub revived : Row → Row
revived r = record { controls = ([], spare r.controls); living = true; active = false; catches = false }

abbrev pub marked : Bool → Bool → Row → Row
marked active catches r = record r { active = active; catches = catches }
