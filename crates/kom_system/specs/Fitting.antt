-- Whether the numbers in a declaration name what they should.
use Rattle.std.specs.Prelude.{ℕ, Bool, true, false, not, ◌&&◌, ◌==◌, nat_lt, nat_le, List, [], ◌∷◌, length, slice_get, Option, Some, None, unwrap_or, count_by}
use Rattle.std.specs.List.{list_all}
use Rattle.std.specs.Option.{option_map_or, option_and_then}
use Rattle.kom_base.specs.declared.numbers.Dir.{Dir}
use Rattle.kom_base.specs.declared.numbers.Dir.TheVariants.{Plus, Minus}
use Rattle.kom_base.specs.Numbers.{is_plus, agree}
use Rattle.kom_base.specs.Lists.{find_map}
use Rattle.kom_events.specs.declared.event_types.EventRow.{EventRow}
use Rattle.kom_events.specs.declared.port_types.PortRow.{PortRow}
use Rattle.kom_events.specs.declared.selector.Test.{Test}
use Rattle.kom_events.specs.Kin.{parent_of, is_on_cycle, attributes}
use Rattle.kom_lang.specs.declared.kind.Kind.{Kind}
use Rattle.kom_lang.specs.declared.kind.Child.{Child}
use Rattle.kom_lang.specs.declared.kind.Place.{Place}
use Rattle.kom_lang.specs.declared.kind.PortDecl.{PortDecl}
use Rattle.kom_lang.specs.declared.kind.SlotDecl.{SlotDecl}
use Rattle.kom_lang.specs.declared.kind.ChannelDecl.{ChannelDecl}
use Rattle.kom_lang.specs.declared.stmt.On.{On}
use Rattle.kom_lang.specs.declared.stmt.On.TheVariants as on
use Rattle.kom_lang.specs.Declarations.{Declarations, kind_of, is_init}

-- ---- event types and port types

-- the built-in event types: SetTimer(id, delay), CancelTimer(id), Timeout(id), Message(src, dst)
abbrev pub built_in_events : List EventRow
built_in_events = record { parent = None; own = 2 } ∷ record { parent = None; own = 1 } ∷ record { parent = None; own = 1 } ∷ record { parent = None; own = 2 } ∷ []

-- the built-in port types: Timer (plus Timeout, minus SetTimer and CancelTimer), Network (Message both ways)
abbrev pub built_in_ports : List PortRow
built_in_ports = record { plus = 2 ∷ []; minus = 0 ∷ 1 ∷ [] } ∷ record { plus = 3 ∷ []; minus = 3 ∷ [] } ∷ []

-- a parent is Message or a declared type, and the type is no ancestor of itself and has at most 8 attributes
abbrev pub event_fits : List EventRow → ℕ → Bool
event_fits rows k = option_map_or (λ p. nat_le 3 p && nat_lt p (length rows)) (parent_of rows k) true && (not (is_on_cycle rows k) && nat_le (attributes rows k) 8)

-- at most 64 event types for each direction, each of them declared
abbrev pub port_type_fits : List EventRow → PortRow → Bool
port_type_fits events row = (nat_le (length row.plus) 64 && list_all (λ k. nat_lt k (length events)) row.plus) && (nat_le (length row.minus) 64 && list_all (λ k. nat_lt k (length events)) row.minus)

-- ---- component types

-- the parameters of the first init handler
abbrev pub init_parameters : On → Option ℕ
init_parameters (on.Init names) = Some (length names)
init_parameters o = None

-- how many arguments a component of this type is created with
abbrev pub arity : Kind → ℕ
arity kind = unwrap_or (find_map (λ h. init_parameters h.on) kind.handlers) 0

-- a component type with as many arguments as it takes
abbrev pub child_fits : Declarations → Child → Bool
child_fits S child = nat_lt child.kind (length S.kinds) && length child.args == arity (kind_of S child.kind)

abbrev pub port_fits : Declarations → PortDecl → Bool
port_fits S p = nat_lt p.port (length S.ports)

abbrev pub slot_fits : Declarations → SlotDecl → Bool
slot_fits S s = option_map_or (child_fits S) s.child true

-- the port has the channel's port type and, on that side, the sign of the end: outside a provided
-- port takes plus ends, inside a required one does
abbrev pub takes_at : ℕ → Dir → Bool → PortDecl → Bool
takes_at type end outside p = p.port == type && agree (agree p.provided outside) (is_plus end)

-- an own port, seen from inside, or a port of the child that a typed slot begins with
abbrev pub place_fits : Declarations → Kind → ℕ → Dir → ℕ → Option ℕ → Bool
place_fits S kind type end port None = option_map_or (takes_at type end false) (slice_get kind.ports port) false
place_fits S kind type end port (Some slot) =
    option_map_or (λ child. option_map_or (takes_at type end true) (slice_get (kind_of S child.kind).ports port) false)
    (option_and_then (λ s. s.child) (slice_get kind.slots slot)) false

abbrev pub end_fits : Declarations → Kind → ℕ → Dir → Option Place → Bool
end_fits S kind type end place = option_map_or (λ p. place_fits S kind type end p.port p.slot) place true

-- the test reads an attribute that the events of its type have
abbrev pub test_fits : Declarations → Test → Bool
test_fits S test = nat_lt test.kind (length S.events) && nat_lt test.attr (attributes S.events test.kind)

abbrev pub selector_fits : Declarations → List Test → Bool
selector_fits S tests = nat_le (length tests) 8 && list_all (test_fits S) tests

abbrev pub channel_fits : Declarations → Kind → ChannelDecl → Bool
channel_fits S kind c =
    nat_lt c.port (length S.ports)
    && ((end_fits S kind c.port Plus c.plus && end_fits S kind c.port Minus c.minus)
    && (selector_fits S c.plus_when && selector_fits S c.minus_when))

abbrev pub handles_fits : Declarations → Kind → On → Bool
handles_fits S kind (on.Event k port) = nat_lt k (length S.events) && nat_lt port (length kind.ports)
handles_fits S kind (on.Init names) = nat_le (length names) 8
handles_fits S kind o = true

abbrev pub has_at_most : ℕ → ℕ → ℕ → ℕ → ℕ → Kind → Bool
has_at_most ports vars slots channels handlers kind =
    nat_le (length kind.ports) ports && (nat_le (length kind.vars) vars && (nat_le (length kind.slots) slots
    && (nat_le (length kind.channels) channels && nat_le (length kind.handlers) handlers)))

-- the numbers in all but the statements of its handlers
abbrev pub numbers_fit : Declarations → Kind → Bool
numbers_fit S kind =
    (list_all (port_fits S) kind.ports && list_all (slot_fits S) kind.slots)
    && ((list_all (channel_fits S kind) kind.channels && list_all (λ h. handles_fits S kind h.on) kind.handlers)
    && nat_le (count_by (λ h. is_init h.on) kind.handlers) 1)

-- all but the statements of its handlers
abbrev pub kind_fits : Declarations → Kind → Bool
kind_fits S kind = has_at_most 16 64 32 64 64 kind && numbers_fit S kind
