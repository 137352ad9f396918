-- Descent by steps from a type to its parent.
use Rattle.std.specs.Prelude.{◌≡◌, ◌<◌, ℕ, List, length, Some}
use Rattle.kom_events.specs.declared.event_types.EventRow.{EventRow}
use Rattle.kom_events.specs.Kin.{parent_of}

-- a is b or a descendant of b
pub data Descends (rows : List EventRow) : ℕ → ℕ → Type 0 where
  Itself : (a : ℕ) → a < length rows → Descends rows a a
  Above : (a p b : ℕ) → parent_of rows a ≡ Some p → Descends rows p b → Descends rows a b
