-- What a file declares: the names of each space, and the rows of event types and port types by number.
use Rattle.std.specs.Prelude.{ℕ, Bool, true, false, List, [], ◌∷◌, ◌++◌, length, map, slice_get, slice_index_or, Option, Some, None, unwrap_or, codes, reverse}
use Rattle.std.specs.List.{flat_map}
use Rattle.std.specs.Option.{option_map, option_and_then}
use Rattle.kom_base.specs.Lists.{find_map}
use Rattle.kom_events.specs.declared.event_types.EventRow.{EventRow}
use Rattle.kom_events.specs.declared.port_types.PortRow.{PortRow}
use Rattle.kom_events.specs.Kin.{ancestors}
use Rattle.kom_system.specs.declared.parts.Spot.{Spot}
use Rattle.kom_system.specs.declared.parts.EventPart.{EventPart}
use Rattle.kom_system.specs.declared.parts.PortTypePart.{PortTypePart}
use Rattle.kom_system.specs.declared.parts.PortPart.{PortPart}
use Rattle.kom_system.specs.declared.parts.SlotPart.{SlotPart}
use Rattle.kom_system.specs.declared.parts.ChannelPart.{ChannelPart}
use Rattle.kom_system.specs.declared.parts.HandlerPart.{HandlerPart}
use Rattle.kom_system.specs.declared.parts.OnPart.{OnPart}
use Rattle.kom_system.specs.declared.parts.OnPart.TheVariants as on
use Rattle.kom_system.specs.declared.parts.ComponentPart.{ComponentPart}
use Rattle.kom_system.specs.declared.parts.Parts.{Parts}
use Rattle.kom_system.specs.Fitting.{built_in_events, built_in_ports}
use Rattle.kom_rules.specs.Names.{Name, names_of, number_in}

-- ---- the spaces of names

abbrev pub built_in_event_names : List Name
built_in_event_names = codes "SetTimer" ∷ codes "CancelTimer" ∷ codes "Timeout" ∷ codes "Message" ∷ []

abbrev pub built_in_port_names : List Name
built_in_port_names = codes "Timer" ∷ codes "Network" ∷ []

abbrev pub event_spots : Parts → List Spot
event_spots P = map (λ e. e.name) P.events

abbrev pub port_type_spots : Parts → List Spot
port_type_spots P = map (λ t. t.name) P.ports

abbrev pub component_spots : Parts → List Spot
component_spots P = map (λ c. c.name) P.components

abbrev pub port_spots : ComponentPart → List Spot
port_spots c = map (λ p. p.name) c.ports

abbrev pub var_spots : ComponentPart → List Spot
var_spots c = map (λ v. v.name) c.vars

abbrev pub slot_spots : ComponentPart → List Spot
slot_spots c = map (λ s. s.name) c.slots

abbrev pub channel_spots : ComponentPart → List Spot
channel_spots c = map (λ k. k.name) c.channels

abbrev pub handler_spots : ComponentPart → List Spot
handler_spots c = map (λ h. h.name) c.handlers

-- the one space of a component type
abbrev pub item_spots : ComponentPart → List Spot
item_spots c = port_spots c ++ (var_spots c ++ (slot_spots c ++ (channel_spots c ++ handler_spots c)))

-- the names of all event types in the order of their numbers, and those of port types and component types
abbrev pub event_names : Parts → List Name
event_names P = built_in_event_names ++ names_of (event_spots P)

abbrev pub port_type_names : Parts → List Name
port_type_names P = built_in_port_names ++ names_of (port_type_spots P)

abbrev pub component_names : Parts → List Name
component_names P = names_of (component_spots P)

-- ---- event types and port types by number

abbrev pub event_number : Parts → Spot → ℕ
event_number P s = number_in (event_names P) s.name

abbrev pub port_type_number : Parts → Spot → ℕ
port_type_number P s = number_in (port_type_names P) s.name

abbrev pub component_number : Parts → Spot → ℕ
component_number P s = number_in (component_names P) s.name

abbrev pub event_row : Parts → EventPart → EventRow
event_row P e = record { parent = option_map (event_number P) e.parent; own = length e.attrs }

abbrev pub event_rows : Parts → List EventRow
event_rows P = built_in_events ++ map (event_row P) P.events

abbrev pub port_row : Parts → PortTypePart → PortRow
port_row P t = record { plus = map (event_number P) t.plus; minus = map (event_number P) t.minus }

abbrev pub port_rows : Parts → List PortRow
port_rows P = built_in_ports ++ map (port_row P) P.ports

-- the names of the attributes that each event type adds
abbrev pub built_in_attributes : List (List Name)
built_in_attributes = (codes "id" ∷ codes "delay" ∷ []) ∷ (codes "id" ∷ []) ∷ (codes "id" ∷ []) ∷ (codes "src" ∷ codes "dst" ∷ []) ∷ []

abbrev pub own_attributes : Parts → List (List Name)
own_attributes P = built_in_attributes ++ map (λ e. names_of e.attrs) P.events

-- the names of the attributes of an event type, inherited ones first
abbrev pub attribute_names : Parts → ℕ → List Name
attribute_names P k = flat_map (λ a. slice_index_or (own_attributes P) a []) (reverse (ancestors (length (event_rows P)) (event_rows P) k))

-- ---- declarations by name

abbrev pub component_named : Parts → Spot → Option ComponentPart
component_named P s = slice_get P.components (component_number P s)

abbrev pub port_named : ComponentPart → Spot → Option PortPart
port_named c s = slice_get c.ports (number_in (names_of (port_spots c)) s.name)

abbrev pub slot_named : ComponentPart → Spot → Option SlotPart
slot_named c s = slice_get c.slots (number_in (names_of (slot_spots c)) s.name)

abbrev pub channel_named : ComponentPart → Spot → Option ChannelPart
channel_named c s = slice_get c.channels (number_in (names_of (channel_spots c)) s.name)

abbrev pub handler_named : ComponentPart → Spot → Option HandlerPart
handler_named c s = slice_get c.handlers (number_in (names_of (handler_spots c)) s.name)

-- the parameters of a handler
abbrev pub parameters : OnPart → List Spot
parameters (on.Event kind port) = []
parameters (on.Init spots) = spots
parameters on.Start = []
parameters on.Stop = []
parameters (on.Fault slot number) = slot ∷ number ∷ []
parameters (on.Dumped slot) = slot ∷ []

abbrev pub is_init : OnPart → Bool
is_init (on.Init spots) = true
is_init _ = false

abbrev pub init_parameters : OnPart → Option ℕ
init_parameters (on.Init spots) = Some (length spots)
init_parameters _ = None

-- how many arguments a component of the type is created with: as many as its first init handler has parameters
abbrev pub arity : ComponentPart → ℕ
arity c = unwrap_or (find_map (λ h. init_parameters h.on) c.handlers) 0

-- the component type in a slot, where it has one that is declared
abbrev pub type_in : Parts → SlotPart → Option ComponentPart
type_in P s = option_and_then (λ child. component_named P child.kind) s.child
