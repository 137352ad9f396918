-- The rules that speak of what is declared, once each name is: component types, channels and
-- handlers. For each the places at which a file breaks it.
use Rattle.std.specs.Prelude.{bytes_eq, ℕ, zero, suc, ◌+◌, Bool, true, false, not, ◌||◌, ◌==◌, nat_lt, List, [], ◌∷◌, ◌++◌, length, map, filter, take, drop, Option, slice_get, sum_by}
use Rattle.std.specs.List.{flat_map, filter_map, list_any, enumerate_from}
use Rattle.std.specs.Option.{option_map, option_map_or, option_and_then}
use Rattle.kom_base.specs.declared.numbers.Dir.{Dir}
use Rattle.kom_base.specs.declared.numbers.Dir.TheVariants.{Plus, Minus}
use Rattle.kom_base.specs.Numbers.{agree, is_plus}
use Rattle.kom_events.specs.declared.event_types.EventRow.{EventRow}
use Rattle.kom_events.specs.Kin.{kin}
use Rattle.kom_events.specs.Ports.{listed}
use Rattle.kom_lang.specs.Declarations.{greatest}
use Rattle.kom_system.specs.declared.parts.Spot.{Spot}
use Rattle.kom_system.specs.declared.parts.ChildPart.{ChildPart}
use Rattle.kom_system.specs.declared.parts.PortPart.{PortPart}
use Rattle.kom_system.specs.declared.parts.SlotPart.{SlotPart}
use Rattle.kom_system.specs.declared.parts.TestPart.{TestPart}
use Rattle.kom_system.specs.declared.parts.EndPart.{EndPart}
use Rattle.kom_system.specs.declared.parts.EndPart.TheVariants as end
use Rattle.kom_system.specs.declared.parts.OnPart.{OnPart}
use Rattle.kom_system.specs.declared.parts.OnPart.TheVariants as on
use Rattle.kom_system.specs.declared.parts.StmtPart.TheOpen.{Create}
use Rattle.kom_system.specs.declared.parts.ChannelPart.{ChannelPart}
use Rattle.kom_system.specs.declared.parts.ComponentPart.{ComponentPart}
use Rattle.kom_system.specs.declared.parts.Parts.{Parts}
use Rattle.kom_rules.specs.Names.{at_if}
use Rattle.kom_rules.specs.Spaces.{event_number, port_type_number, component_number, event_rows, port_rows, component_named, port_named, slot_named, type_in, is_init, arity}
use Rattle.kom_rules.specs.Walks.{One, of_statements}

-- ---- rule 13: a root, a typed slot or a `create` with another count of arguments than its
-- component type takes; at the component type's name

abbrev pub wrong_count : Parts → Spot → ℕ → List ℕ
wrong_count P kind count = option_map_or (λ t. at_if (not (count == arity t)) kind.at) (component_named P kind) []

abbrev pub wrong_child : Parts → ChildPart → List ℕ
wrong_child P child = wrong_count P child.kind (length child.args)

abbrev pub wrong_create : Parts → ComponentPart → OnPart → One → List ℕ
wrong_create P c o (Create slot kind es) = wrong_count P kind (length es)
wrong_create P c o _ = []

abbrev pub wrong_slots : Parts → List ℕ
wrong_slots P = flat_map (λ c. flat_map (λ s. option_map_or (wrong_child P) s.child []) c.slots) P.components

abbrev pub wrong_counts : Parts → List ℕ
wrong_counts P = wrong_slots P ++ (of_statements wrong_create P ++ flat_map (λ r. wrong_child P r.child) P.roots)

-- ---- rules 14 and 15: a component type that contains itself through typed slots; one whose tree
-- has depth over 16, or over 1,000 instances or channels; at its name in its declaration

-- the numbers of the component types in the typed slots of a component type
abbrev pub child_number : Parts → SlotPart → Option ℕ
child_number P s = option_map (λ child. component_number P child.kind) s.child

abbrev pub children_of : Parts → ℕ → List ℕ
children_of P k = option_map_or (λ c. filter_map (child_number P) c.slots) (slice_get P.components k) []

-- b is in a tree of a, below its root, at most so many levels down
abbrev pub is_below : ℕ → Parts → ℕ → ℕ → Bool
is_below zero P a b = false
is_below (suc levels) P a b = list_any (λ c. c == b || is_below levels P c b) (children_of P a)

-- how many levels the tree has, of which no more than so many are counted
abbrev pub tree_height : ℕ → Parts → ℕ → ℕ
tree_height zero P k = 0
tree_height (suc levels) P k = 1 + greatest (map (tree_height levels P) (children_of P k))

-- what all in the tree add together, down to so many levels
abbrev pub tree_total : (ComponentPart → ℕ) → ℕ → Parts → ℕ → ℕ
tree_total adds zero P k = 0
tree_total adds (suc levels) P k = option_map_or adds (slice_get P.components k) 0 + sum_by (tree_total adds levels P) (children_of P k)

abbrev pub numbered_components : Parts → List (ℕ × ComponentPart)
numbered_components P = enumerate_from 0 P.components

abbrev pub own_containers : Parts → List ℕ
own_containers P = flat_map (λ x. at_if (is_below (length P.components) P x.0 x.0) x.1.name.at) (numbered_components P)

abbrev pub is_too_large : Parts → ℕ → Bool
is_too_large P k = nat_lt 16 (tree_height 17 P k) || (nat_lt 1000 (tree_total (λ c. 1) 16 P k) || nat_lt 1000 (tree_total (λ c. length c.channels) 16 P k))

abbrev pub too_large : Parts → List ℕ
too_large P = flat_map (λ x. at_if (is_too_large P x.0) x.1.name.at) (numbered_components P)

-- ---- rules 16, 17 and 18: a channel's first end at a slot without a type, at the slot's name; at
-- a port that is not of the channel's port type, or at a half of the wrong sign, at the port's name

abbrev pub untyped_end : ComponentPart → EndPart → List ℕ
untyped_end c (end.Child slot port) = option_map_or (λ s. option_map_or (λ child. []) s.child (slot.at ∷ [])) (slot_named c slot) []
untyped_end c _ = []

abbrev pub untyped_in : ComponentPart → List ℕ
untyped_in c = flat_map (λ k. untyped_end c k.plus ++ untyped_end c k.minus) c.channels

abbrev pub untyped_ends : Parts → List ℕ
untyped_ends P = flat_map untyped_in P.components

-- what is said of the port of an end: it is given the port, whether the end is at its outside half, and the place of its name
abbrev pub of_end : (PortPart → Bool → ℕ → List ℕ) → Parts → ComponentPart → EndPart → List ℕ
of_end says P c end.Free = []
of_end says P c (end.Own port) = option_map_or (λ p. says p false port.at) (port_named c port) []
of_end says P c (end.Child slot port) = option_map_or (λ p. says p true port.at) (option_and_then (λ s. option_and_then (λ t. port_named t port) (type_in P s)) (slot_named c slot)) []

-- the port is of the port type of the channel
abbrev pub is_of_type : ChannelPart → PortPart → Bool
is_of_type k p = bytes_eq p.port.name k.port.name

-- the outside half of a provided port and the inside half of a required one are positive, and take plus ends
abbrev pub takes_end : Dir → PortPart → Bool → Bool
takes_end e p outside = agree (agree p.provided outside) (is_plus e)

abbrev pub wrong_type : ChannelPart → PortPart → Bool → ℕ → List ℕ
wrong_type k p outside a = at_if (not (is_of_type k p)) a

abbrev pub wrong_types_in : Parts → ComponentPart → List ℕ
wrong_types_in P c = flat_map (λ k. of_end (wrong_type k) P c k.plus ++ of_end (wrong_type k) P c k.minus) c.channels

abbrev pub wrong_types : Parts → List ℕ
wrong_types P = flat_map (wrong_types_in P) P.components

abbrev pub wrong_sign : Dir → PortPart → Bool → ℕ → List ℕ
wrong_sign e p outside a = at_if (not (takes_end e p outside)) a

abbrev pub wrong_signs_in : Parts → ComponentPart → List ℕ
wrong_signs_in P c = flat_map (λ k. of_end (wrong_sign Plus) P c k.plus ++ of_end (wrong_sign Minus) P c k.minus) c.channels

abbrev pub wrong_signs : Parts → List ℕ
wrong_signs P = flat_map (wrong_signs_in P) P.components

-- ---- rules 19 and 20: a test, or an event handler, whose event type is neither kin nor ancestor
-- of a type listed for its direction; at the event type's name

-- the type is kin or ancestor of one of the types
abbrev pub is_related : List EventRow → ℕ → List ℕ → Bool
is_related rows k kinds = list_any (λ t. kin rows k t || kin rows t k) kinds

-- the types that a port type lists for a direction
abbrev pub listed_for : Parts → Spot → Dir → List ℕ
listed_for P port d = option_map_or (λ row. listed row d) (slice_get (port_rows P) (port_type_number P port)) []

abbrev pub unrelated : Parts → Spot → Dir → Spot → List ℕ
unrelated P port d kind = at_if (not (is_related (event_rows P) (event_number P kind) (listed_for P port d))) kind.at

abbrev pub wrong_tests_of : Parts → ChannelPart → List ℕ
wrong_tests_of P k = flat_map (λ t. unrelated P k.port Plus t.kind) k.plus_when ++ flat_map (λ t. unrelated P k.port Minus t.kind) k.minus_when

abbrev pub wrong_tests : Parts → List ℕ
wrong_tests P = flat_map (λ c. flat_map (wrong_tests_of P) c.channels) P.components

-- a provided port lets Minus in from outside, a required one Plus
abbrev pub inwards : Bool → Dir
inwards true = Minus
inwards false = Plus

abbrev pub wrong_handled : Parts → ComponentPart → OnPart → List ℕ
wrong_handled P c (on.Event kind port) = option_map_or (λ p. unrelated P p.port (inwards p.provided) kind) (port_named c port) []
wrong_handled P c _ = []

abbrev pub wrong_handlers : Parts → List ℕ
wrong_handlers P = flat_map (λ c. flat_map (λ h. wrong_handled P c h.on) c.handlers) P.components

-- ---- rule 21: a second init handler, at its name

abbrev pub more_inits : ComponentPart → List ℕ
more_inits c = map (λ h. h.name.at) (take 1 (drop 1 (filter (λ h. is_init h.on) c.handlers)))

abbrev pub second_inits : Parts → List ℕ
second_inits P = flat_map more_inits P.components

-- ---- rule 31: more than 8 tests for one direction, at the event type's name of the ninth

abbrev pub ninth_test : List TestPart → List ℕ
ninth_test tests = map (λ t. t.kind.at) (take 1 (drop 8 tests))

abbrev pub many_tests : Parts → List ℕ
many_tests P = flat_map (λ c. flat_map (λ k. ninth_test k.plus_when ++ ninth_test k.minus_when) c.channels) P.components
