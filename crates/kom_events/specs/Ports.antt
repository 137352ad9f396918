-- What passes a port.
use Rattle.std.specs.Prelude.{ℕ, Bool, false, List, slice_get}
use Rattle.std.specs.List.{list_any}
use Rattle.std.specs.Option.{option_map_or}
use Rattle.kom_base.specs.declared.numbers.Dir.{Dir}
use Rattle.kom_base.specs.declared.numbers.Dir.TheVariants.{Plus, Minus}
use Rattle.kom_events.specs.declared.event_types.EventRow.{EventRow}
use Rattle.kom_events.specs.declared.port_types.PortRow.{PortRow}
use Rattle.kom_events.specs.Kin.{kin}

-- the event types that a port type lists for a direction
abbrev pub listed : PortRow → Dir → List ℕ
listed row Plus = row.plus
listed row Minus = row.minus

-- the list has the type or an ancestor of it
abbrev pub lists : List EventRow → List ℕ → ℕ → Bool
lists events kinds kind = list_any (kin events kind) kinds

-- events of a type pass a port of this type in this direction
abbrev pub passes : List EventRow → List PortRow → ℕ → Dir → ℕ → Bool
passes events ports port d kind = option_map_or (λ row. lists events (listed row d) kind) (slice_get ports port) false
