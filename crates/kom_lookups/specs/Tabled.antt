-- The tables of a file.
use Rattle.std.specs.Prelude.{◌≡◌, ℕ, List, length, slice_get, Some}
use Rattle.kom_system.specs.declared.parts.ComponentPart.{ComponentPart}
use Rattle.kom_system.specs.declared.parts.Parts.{Parts}
use Rattle.kom_rules.specs.Names.{names_of}
use Rattle.kom_rules.specs.Spaces.{event_spots, port_type_spots, component_names, port_spots, var_spots, slot_spots, channel_spots, handler_spots}
use Rattle.kom_lookups.specs.declared.tables.Names.{Names}
use Rattle.kom_lookups.specs.declared.tables.Tables.{Tables}
use Rattle.kom_lookups.specs.Numbered.{HasNumbers}

-- the numbers of the names in a component type
pub record HasNames (names : Names) (c : ComponentPart) : Type 0 where
  pub ports : HasNumbers names.ports (names_of (port_spots c))
  pub vars : HasNumbers names.vars (names_of (var_spots c))
  pub slots : HasNumbers names.slots (names_of (slot_spots c))
  pub channels : HasNumbers names.channels (names_of (channel_spots c))
  pub handlers : HasNumbers names.handlers (names_of (handler_spots c))

-- those of each component type, in their order
pub record AllHaveNames (inside : List Names) (parts : List ComponentPart) : Type 0 where
  pub count : length inside ≡ length parts
  pub each : (k : ℕ) (names : Names) (c : ComponentPart) → slice_get inside k ≡ Some names → slice_get parts k ≡ Some c → HasNames names c

-- the numbers of the declared names of a file
pub record AreTables (tables : Tables) (P : Parts) : Type 0 where
  pub events : HasNumbers tables.events (names_of (event_spots P))
  pub port_types : HasNumbers tables.port_types (names_of (port_type_spots P))
  pub components : HasNumbers tables.components (component_names P)
  pub inside : AllHaveNames tables.inside P.components
