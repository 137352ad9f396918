-- The tables of the event types and port types of a file.
use Rattle.std.specs.Prelude.{◌≡◌, ℕ, [], length, map, slice_index_or}
use Rattle.kom_system.specs.declared.parts.Parts.{Parts}
use Rattle.kom_events.specs.Kin.{ancestors}
use Rattle.kom_rules.specs.Names.{names_of}
use Rattle.kom_rules.specs.Spaces.{event_spots, port_type_spots, event_rows, port_rows, attribute_names}
use Rattle.kom_lookups.specs.Numbered.{HasNumbers}
use Rattle.kom_tables.specs.declared.event_table.EventTable.{EventTable}
use Rattle.kom_tables.specs.declared.port_table.PortTable.{PortTable}
use Rattle.kom_tables.specs.declared.type_tables.TypeTables.{TypeTables}

-- the event types of a file: the numbers of the declared ones among themselves, and for each type
-- by number its ancestors and the names of its attributes
pub record AreEventTypes (table : EventTable) (P : Parts) : Type 0 where
  pub declared : HasNumbers table.declared (names_of (event_spots P))
  pub lines : (k : ℕ) → slice_index_or table.lines k [] ≡ ancestors (length (event_rows P)) (event_rows P) k
  pub attributes : (k : ℕ) → slice_index_or table.attributes k [] ≡ attribute_names P k
  pub count : length table.attributes ≡ length (event_rows P)

-- the port types of a file, with the event types that each lists for a direction
pub record ArePortTypes (table : PortTable) (P : Parts) : Type 0 where
  pub declared : HasNumbers table.declared (names_of (port_type_spots P))
  pub plus : table.plus ≡ map (λ row. row.plus) (port_rows P)
  pub minus : table.minus ≡ map (λ row. row.minus) (port_rows P)

pub record AreTypes (tables : TypeTables) (P : Parts) : Type 0 where
  pub events : AreEventTypes tables.events P
  pub ports : ArePortTypes tables.ports P
