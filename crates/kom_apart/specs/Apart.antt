-- Names of which none comes twice.
use Rattle.std.specs.Prelude.{◌≡◌, ℕ, ◌+◌, ◌≤◌, List, [], ◌∷◌, slice_get, Some, bytes_eq, if◌then◌else◌}
use Rattle.kom_system.specs.declared.parts.ComponentPart.{ComponentPart}
use Rattle.kom_system.specs.declared.parts.Parts.{Parts}
use Rattle.kom_rules.specs.Names.{Name, names_of}
use Rattle.kom_rules.specs.Spaces.{event_spots, port_type_spots, component_spots, item_spots}

-- how often a name comes
abbrev pub times : Name → List Name → ℕ
times n [] = 0
times n (x ∷ names) = (if bytes_eq n x then 1 else 0) + times n names

abbrev pub AreOnce : List Name → Type 0
AreOnce names = (n : Name) → times n names ≤ 1

-- in each space: event types, port types, component types, and what each component type declares
pub record HasNamesOnce (P : Parts) : Type 0 where
  pub events : AreOnce (names_of (event_spots P))
  pub port_types : AreOnce (names_of (port_type_spots P))
  pub components : AreOnce (names_of (component_spots P))
  pub inside : (k : ℕ) (c : ComponentPart) → slice_get P.components k ≡ Some c → AreOnce (names_of (item_spots c))
