-- When a body says the same of a component's slots and channels as the effects of the run.
use Rattle.std.specs.Prelude.{◌≡◌, ◌<◌, ℕ, List, [], ◌∷◌, Option, length, slice_get}
use Rattle.std.specs.Option.{option_and_then, option_map}
use Rattle.kom_base.specs.declared.numbers.Dir.{Dir}
use Rattle.kom_lang.specs.Declarations.{Declarations}
use Rattle.kom_lang.specs.Steps.{child_in, end_of, wire_of}
use Rattle.kom_lang.specs.declared.body.Body.{Body}
use Rattle.kom_lang.specs.declared.body.Effect.{Effect}
use Rattle.kom_record.specs.declared.item.Item.{Item}
use Rattle.kom_record.specs.Entries.{Act}
use Rattle.kom_record.specs.Instances.{born, occupant}
use Rattle.kom_record.specs.Channels.{half_of, wire_end, wire_held}

-- the component type of who is in a slot of c, after these acts; none where the slot is empty
abbrev pub kind_in : Declarations → List Act → ℕ → ℕ → Option ℕ
kind_in S done c s = option_map (λ i. i.kind) (option_and_then (slice_get (born S done)) (occupant S done c s))

-- each slot of the body holds the type of its occupant, and each of its channels is held and
-- plugged as the body has it
pub record Agrees (S : Declarations) (done : List Act) (c : ℕ) (b : Body) : Type 0 where
  pub slots : (s : ℕ) → kind_in S done c s ≡ child_in b s
  pub holds : (k : ℕ) → k < length b.wires → wire_held S done c k ≡ (wire_of b k).held
  pub ends : (k : ℕ) (e : Dir) → k < length b.wires → wire_end S done c k e ≡ option_and_then (half_of S done c) (end_of (wire_of b k) e)

-- before each of these effects some body agrees for its handler with the effects before it
abbrev pub AgreesBefore : Declarations → List Act → ℕ → Item → List Effect → Type 0
AgreesBefore S done c item [] = Unit {0}
AgreesBefore S done c item (e ∷ es) = ((b : Body) × Agrees S done c b) × AgreesBefore S (record { by = c; item = item; effect = e } ∷ done) c item es
