-- What a system declares, by number, and what follows from a component type alone.
use Rattle.std.specs.Prelude.{ℕ, zero, suc, ◌+◌, max, Bool, true, false, not, ◌&&◌, if◌then◌else◌, List, [], ◌∷◌, length, map, slice_get, slice_index_or, Option, Some, None}
use Rattle.std.specs.List.{list_any, enumerate_from, filter_map}
use Rattle.std.specs.Option.{option_map_or}
use Rattle.kom_events.specs.declared.event_types.EventRow.{EventRow}
use Rattle.kom_events.specs.declared.port_types.PortRow.{PortRow}
use Rattle.kom_lang.specs.declared.kind.Kind.{Kind}
use Rattle.kom_lang.specs.declared.kind.Child.{Child}
use Rattle.kom_lang.specs.declared.kind.SlotDecl.{SlotDecl}
use Rattle.kom_lang.specs.declared.stmt.Handler.{Handler}
use Rattle.kom_lang.specs.declared.stmt.On.{On}
use Rattle.kom_lang.specs.declared.stmt.On.TheVariants as on

-- the event types, port types and component types of a system, each named by its place in the
-- list, and its root
pub record Declarations : Type 0 where
  pub events : List EventRow
  pub ports : List PortRow
  pub kinds : List Kind
  pub root : Child

-- a type for a number that no component type has
abbrev pub no_kind : Kind
no_kind = record { name = []; ports = []; vars = []; slots = []; channels = []; handlers = [] }

-- the component type with that number
abbrev pub kind_of : Declarations → ℕ → Kind
kind_of S k = slice_index_or S.kinds k no_kind

-- ---- handlers

-- whether a handler handles Init
abbrev pub is_init : On → Bool
is_init (on.Init names) = true
is_init o = false

-- whether a handler handles faults
abbrev pub is_fault : On → Bool
is_fault (on.Fault slot number) = true
is_fault o = false

-- the handler with that number
abbrev pub handler_of : Kind → ℕ → Option Handler
handler_of kind h = slice_get kind.handlers h

-- whether components of the type take an Init
abbrev pub has_init : Kind → Bool
has_init kind = list_any (λ h. is_init h.on) kind.handlers

-- the numbers of the handlers that pass a test, in order of declaration
abbrev pub numbers_of : (Handler → Bool) → List Handler → List ℕ
numbers_of test handlers = filter_map (λ p. if test p.1 then Some p.0 else None) (enumerate_from 0 handlers)

-- subscribed from the start
abbrev pub is_on : Handler → Bool
is_on h = not h.off && not (is_init h.on)

-- the subscriptions of a component that becomes initialised
abbrev pub first_subs : Kind → List ℕ
first_subs kind = numbers_of is_on kind.handlers

-- ---- the tree of a component type

-- the greatest of some numbers, and 0 where there are none
abbrev pub greatest : List ℕ → ℕ
greatest [] = 0
greatest (n ∷ ns) = max n (greatest ns)

-- the height of the tree in a slot, where f gives that of each component type; 0 where the slot is
-- empty
abbrev pub child_height : (ℕ → ℕ) → SlotDecl → ℕ
child_height f s = option_map_or (λ child. f child.kind) s.child 0

-- how many levels the tree of a component type has: one more than the highest in its typed slots,
-- where it has at most n levels
abbrev pub height : ℕ → List Kind → ℕ → ℕ
height zero kinds k = 0
height (suc n) kinds k = option_map_or (λ kind. 1 + greatest (map (child_height (height n kinds)) kind.slots)) (slice_get kinds k) 0

-- where no type contains itself there are at most as many levels as types
abbrev pub height_of : Declarations → ℕ → ℕ
height_of S k = height (length S.kinds) S.kinds k
