-- What the queues of a channel are, and what its calls make of them.
use Rattle.std.specs.Prelude.{ℕ, ◌-◌, Bool, false, if◌then◌else◌, List, [], ◌∷◌, ◌++◌, Option, Some, None}
use Rattle.std.specs.Ordering.{nat_cmp}
use Rattle.std.specs.Option.{option_and_then, option_map, option_map_or}
use Rattle.kom_base.specs.declared.numbers.Dir.{Dir}
use Rattle.kom_base.specs.declared.numbers.Dir.TheVariants.{Plus, Minus}
use Rattle.kom_base.specs.declared.numbers.EntryNo.{EntryNo}
use Rattle.kom_index.specs.Entries.{value_of}
use Rattle.kom_queues.specs.declared.front.Arrival.{Arrival}
use Rattle.kom_queues.specs.declared.front.Front.{Front}
use Rattle.kom_queues.specs.declared.slot.Slot.{Slot}
use Rattle.kom_queues.specs.Fronts.{front_of}
use Rattle.kom_queues.specs.Waiting.{Waiting, arrival_of}

abbrev pub side : Slot → Dir → Waiting
side s Plus = s.plus
side s Minus = s.minus

abbrev pub with_side : Slot → Dir → Waiting → Slot
with_side s Plus w = record s { plus = w }
with_side s Minus w = record s { minus = w }

-- what waits at the front of a direction of a living channel
abbrev pub arrival_at : Slot → Dir → Option Arrival
arrival_at s d = if s.living then arrival_of (side s d) else None

abbrev pub front_at : Slot → ℕ → Dir → Front
front_at s x d = front_of (arrival_at s d) x d

-- with one number more at the back
abbrev pub pushed : Waiting → EntryNo → Waiting
pushed w n = record w { numbers = w.numbers ++ n ∷ []; spare = w.spare - 1 }

abbrev pub aimed : Waiting → Option ℕ → Waiting
aimed w at = record w { aim = at }

-- the queues of a channel that is there or that room was reserved for
abbrev pub slot_of : List (ℕ × Slot) → ℕ → Option Slot
slot_of m x = value_of nat_cmp x m

abbrev pub is_there : List (ℕ × Slot) → ℕ → Bool
is_there m x = option_map_or (λ s. s.living) (slot_of m x) false

-- what waits in a direction of a channel that is there
abbrev pub queue_of : List (ℕ × Slot) → ℕ → Dir → Option Waiting
queue_of m x d = option_and_then (λ s. if s.living then Some (side s d) else None) (slot_of m x)

-- for how many more numbers a direction has room
abbrev pub spare_of : List (ℕ × Slot) → ℕ → Dir → ℕ
spare_of m x d = option_map_or (λ s. (side s d).spare) (slot_of m x) 0

-- the numbers and the aim of a direction, without its room
abbrev pub content_of : List (ℕ × Slot) → ℕ → Dir → Option (List EntryNo × Option ℕ)
content_of m x d = option_map (λ w. (w.numbers, w.aim)) (queue_of m x d)
