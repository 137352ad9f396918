-- The names of the attributes of all event types of a file.
use Rattle.std.specs.Prelude.{◌≡◌, ℕ, List, [], slice_index_or}
use Rattle.kom_system.specs.declared.parts.Parts.{Parts}
use Rattle.kom_rules.specs.Names.{Name}
use Rattle.kom_rules.specs.Spaces.{attribute_names}

-- the list has those of each event type, by number
abbrev pub AreAttributes : List (List Name) → Parts → Type 0
AreAttributes lists P = (k : ℕ) → slice_index_or lists k [] ≡ attribute_names P k
