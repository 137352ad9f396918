-- What was read or written of a whole text.
use Rattle.std.specs.Prelude.{◌≡◌, ◌+◌, ◌<◌, ◌≤◌, ◌++◌, ℕ, List, [], Option, IfSome, length, take}
use Rattle.std.specs.Option.{option_map}
use Rattle.kom_io.specs.declared.reading.TextRead.{TextRead}
use Rattle.kom_io.specs.declared.reading.TextRead.TheVariants as read
use Rattle.kom_io.specs.declared.reading.Turn.{Turn}
use Rattle.kom_io.specs.declared.reading.Turn.TheVariants as turn

-- file: the bytes of the name, where they are told. A text is the whole file, read to its end, and is
-- within the limit; it is too long exactly where the file has more bytes.
abbrev pub IsText : TextRead → Option (List ℕ) → ℕ → Option (List ℕ) → Type 0
IsText (read.Text text) file limit left = (length text.items ≤ limit) × IfSome file (λ bytes. text.items ≡ bytes) × IfSome left (λ rest. rest ≡ [])
IsText read.TooLong file limit left = IfSome file (λ bytes. limit < length bytes)
IsText read.ReadFault file limit left = Unit {0}
IsText read.Memory file limit left = Unit {0}

-- a prefix of the bytes was added
abbrev pub AddsPrefix : List ℕ → Option (List ℕ) → Option (List ℕ) → Type 0
AddsPrefix bytes before after = (k : ℕ) × (k ≤ length bytes) × (after ≡ option_map (λ written. written ++ take k bytes) before)

-- some bytes went from the front of what was left to the end of the text
pub record Moves (limit : ℕ) (old new : List ℕ) (before after : Option (List ℕ)) : Type 0 where
  pub grows : length old < length new
  pub within : length new ≤ limit
  pub keeps : option_map (λ left. new ++ left) after ≡ option_map (λ left. old ++ left) before

-- one turn: the text before and after it, and what was left of the file before and after it
abbrev pub IsTurn : Turn → ℕ → List ℕ → List ℕ → Option (List ℕ) → Option (List ℕ) → Type 0
IsTurn turn.More limit old new before after = Moves limit old new before after
IsTurn turn.End limit old new before after = IfSome before (λ left. left ≡ []) × (after ≡ before) × (new ≡ old)
IsTurn turn.TooLong limit old new before after = IfSome before (λ left. limit < length old + length left)
IsTurn turn.Fault limit old new before after = Unit {0}
IsTurn turn.Memory limit old new before after = Unit {0}
