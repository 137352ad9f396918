-- The rules that speak of names: for each the places at which a file breaks it.
use Rattle.std.specs.Prelude.{ℕ, Bool, false, ◌||◌, ◌==◌, nat_lt, max, List, [], ◌∷◌, ◌++◌, length, map, filter, take, drop, codes}
use Rattle.std.specs.List.{flat_map, enumerate_from}
use Rattle.std.specs.Option.{option_map_or}
use Rattle.kom_events.specs.Kin.{is_on_cycle}
use Rattle.kom_system.specs.declared.parts.Spot.{Spot}
use Rattle.kom_system.specs.declared.parts.EventPart.{EventPart}
use Rattle.kom_system.specs.declared.parts.EndPart.{EndPart}
use Rattle.kom_system.specs.declared.parts.EndPart.TheVariants as end
use Rattle.kom_system.specs.declared.parts.TargetPart.{TargetPart}
use Rattle.kom_system.specs.declared.parts.TargetPart.TheVariants as to
use Rattle.kom_system.specs.declared.parts.OnPart.{OnPart}
use Rattle.kom_system.specs.declared.parts.OnPart.TheVariants as on
use Rattle.kom_system.specs.declared.parts.StmtPart.TheOpen.{Let, Set, If, While, Trigger, Answer, Create, CreateFromState, Start, Stop, Destroy, Dump, Hold, Resume, Unplug, Plug, Subscribe, Unsubscribe, Fail, Escalate}
use Rattle.kom_system.specs.declared.parts.ChannelPart.{ChannelPart}
use Rattle.kom_system.specs.declared.parts.HandlerPart.{HandlerPart}
use Rattle.kom_system.specs.declared.parts.ComponentPart.{ComponentPart}
use Rattle.kom_system.specs.declared.parts.Parts.{Parts}
use Rattle.kom_rules.specs.Names.{Name, with_name, same, names_of, places_of, is_among, unknown, repeated, at_if}
use Rattle.kom_rules.specs.Spaces.{built_in_event_names, built_in_port_names, event_spots, port_type_spots, component_spots, port_spots, var_spots, slot_spots, channel_spots, handler_spots, item_spots, event_names, port_type_names, component_names, event_rows, attribute_names, parameters, type_in, slot_named}
use Rattle.kom_rules.specs.Walks.{One, Standing, in_expressions, statements}

-- ---- rule 6: a name declared twice in its space, a built-in name declared, or a parameter or
-- `let` name equal to a name of its component type's space or to one in scope; at the later name

-- a parameter or `let` name with the names in scope before it
pub record Introduced : Type 0 where
  pub scope : List Name
  pub name : Spot

abbrev pub one_by_one : List Name → List Spot → List Introduced
one_by_one scope [] = []
one_by_one scope (s ∷ rest) = record { scope = scope; name = s } ∷ one_by_one (with_name scope s.name) rest

-- at the name itself where an equal one is in scope, and at the later of it and an equal one of the space
abbrev pub clashes : ComponentPart → List Name → Spot → List ℕ
clashes c scope s = at_if (is_among scope s.name) s.at ++ map (λ d. max s.at d.at) (filter (same s.name) (item_spots c))

abbrev pub let_clashes : ComponentPart → List Name → One → List ℕ
let_clashes c scope (Let name e) = clashes c scope name
let_clashes c scope _ = []

abbrev pub clashes_in : ComponentPart → HandlerPart → List ℕ
clashes_in c h = flat_map (λ x. clashes c x.scope x.name) (one_by_one [] (parameters h.on)) ++ flat_map (λ x. let_clashes c x.scope x.stmt) (statements h)

abbrev pub name_clashes : ComponentPart → List ℕ
name_clashes c = repeated (item_spots c) ++ flat_map (clashes_in c) c.handlers

-- at a built-in name
abbrev pub built_in : List Name → List Spot → List ℕ
built_in names spots = flat_map (λ s. at_if (is_among names s.name) s.at) spots

abbrev pub events_twice : Parts → List ℕ
events_twice P = repeated (event_spots P) ++ built_in built_in_event_names (event_spots P)

abbrev pub port_types_twice : Parts → List ℕ
port_types_twice P = repeated (port_type_spots P) ++ built_in built_in_port_names (port_type_spots P)

abbrev pub components_twice : Parts → List ℕ
components_twice P = repeated (component_spots P) ++ flat_map name_clashes P.components

abbrev pub declared_twice : Parts → List ℕ
declared_twice P = events_twice P ++ (port_types_twice P ++ components_twice P)

-- ---- rule 7: a name that is not declared as what its place needs; at the name

abbrev pub unknown_event : Parts → Spot → List ℕ
unknown_event P s = unknown (event_names P) s

abbrev pub unknown_port_type : Parts → Spot → List ℕ
unknown_port_type P s = unknown (port_type_names P) s

abbrev pub unknown_component : Parts → Spot → List ℕ
unknown_component P s = unknown (component_names P) s

abbrev pub unknown_port : ComponentPart → Spot → List ℕ
unknown_port c s = unknown (names_of (port_spots c)) s

abbrev pub unknown_slot : ComponentPart → Spot → List ℕ
unknown_slot c s = unknown (names_of (slot_spots c)) s

abbrev pub unknown_channel : ComponentPart → Spot → List ℕ
unknown_channel c s = unknown (names_of (channel_spots c)) s

abbrev pub unknown_handler : ComponentPart → Spot → List ℕ
unknown_handler c s = unknown (names_of (handler_spots c)) s

-- a name of an expression is a variable, or a parameter or `let` name in scope
abbrev pub unknown_value : ComponentPart → List Name → Spot → List ℕ
unknown_value c scope s = unknown (names_of (var_spots c) ++ scope) s

-- the port at a slot is looked up only where the slot has a type that is declared
abbrev pub unknown_end : Parts → ComponentPart → EndPart → List ℕ
unknown_end P c end.Free = []
unknown_end P c (end.Own port) = unknown_port c port
unknown_end P c (end.Child slot port) = unknown_slot c slot ++ option_map_or (λ s. option_map_or (λ t. unknown_port t port) (type_in P s) []) (slot_named c slot) []

abbrev pub unknown_in_channel : Parts → ComponentPart → ChannelPart → List ℕ
unknown_in_channel P c k =
    unknown_port_type P k.port
    ++ ((unknown_end P c k.plus ++ unknown_end P c k.minus)
    ++ (flat_map (λ t. unknown_event P t.kind) k.plus_when ++ flat_map (λ t. unknown_event P t.kind) k.minus_when))

abbrev pub unknown_in_on : Parts → ComponentPart → OnPart → List ℕ
unknown_in_on P c (on.Event kind port) = unknown_event P kind ++ unknown_port c port
unknown_in_on P c _ = []

-- `plug` at a slot looks up no port in the file
abbrev pub unknown_target : ComponentPart → TargetPart → List ℕ
unknown_target c (to.Own port) = unknown_port c port
unknown_target c (to.Child slot port) = unknown_slot c slot

-- in a statement itself, beside its expressions
abbrev pub unknown_in_one : Parts → ComponentPart → List Name → One → List ℕ
unknown_in_one P c scope (Let name e) = []
unknown_in_one P c scope (Set name e) = unknown_value c scope name
unknown_in_one P c scope (If e block other) = []
unknown_in_one P c scope (While e block) = []
unknown_in_one P c scope (Trigger kind es port) = unknown_event P kind ++ unknown_port c port
unknown_in_one P c scope (Answer a kind es) = unknown_event P kind
unknown_in_one P c scope (Create slot kind es) = unknown_slot c slot ++ unknown_component P kind
unknown_in_one P c scope (CreateFromState slot kind a) = unknown_slot c slot ++ unknown_component P kind
unknown_in_one P c scope (Start slot) = unknown_slot c slot
unknown_in_one P c scope (Stop slot) = unknown_slot c slot
unknown_in_one P c scope (Destroy slot) = unknown_slot c slot
unknown_in_one P c scope (Dump slot) = unknown_slot c slot
unknown_in_one P c scope (Hold wire) = unknown_channel c wire
unknown_in_one P c scope (Resume wire) = unknown_channel c wire
unknown_in_one P c scope (Unplug wire e) = unknown_channel c wire
unknown_in_one P c scope (Plug wire e target) = unknown_channel c wire ++ unknown_target c target
unknown_in_one P c scope (Subscribe h) = unknown_handler c h
unknown_in_one P c scope (Unsubscribe h) = unknown_handler c h
unknown_in_one P c scope (Fail number a) = []
unknown_in_one P c scope (Escalate a) = []

abbrev pub unknown_at : Parts → ComponentPart → Standing → List ℕ
unknown_at P c x = unknown_in_one P c x.scope x.stmt ++ in_expressions (unknown_value c x.scope) (λ a s. []) x.stmt

abbrev pub unknown_in_handler : Parts → ComponentPart → HandlerPart → List ℕ
unknown_in_handler P c h = unknown_in_on P c h.on ++ flat_map (unknown_at P c) (statements h)

-- in the types of ports and slots
abbrev pub unknown_types : Parts → ComponentPart → List ℕ
unknown_types P c = flat_map (λ p. unknown_port_type P p.port) c.ports ++ flat_map (λ s. option_map_or (λ child. unknown_component P child.kind) s.child []) c.slots

-- in channels and handlers
abbrev pub unknown_inside : Parts → ComponentPart → List ℕ
unknown_inside P c = flat_map (unknown_in_channel P c) c.channels ++ flat_map (unknown_in_handler P c) c.handlers

abbrev pub unknown_in_component : Parts → ComponentPart → List ℕ
unknown_in_component P c = unknown_types P c ++ unknown_inside P c

-- in event types and port types
abbrev pub unknown_in_types : Parts → List ℕ
unknown_in_types P = flat_map (λ e. option_map_or (unknown_event P) e.parent []) P.events ++ flat_map (λ t. flat_map (unknown_event P) t.plus ++ flat_map (unknown_event P) t.minus) P.ports

-- in component types and roots
abbrev pub unknown_in_components : Parts → List ℕ
unknown_in_components P = flat_map (unknown_in_component P) P.components ++ flat_map (λ r. unknown_component P r.child.kind) P.roots

abbrev pub undeclared : Parts → List ℕ
undeclared P = unknown_in_types P ++ unknown_in_components P

-- ---- rule 8: the parent is a built-in type other than Message; at the parent's name

abbrev pub no_parents : List Name
no_parents = codes "SetTimer" ∷ codes "CancelTimer" ∷ codes "Timeout" ∷ []

abbrev pub wrong_parent : EventPart → List ℕ
wrong_parent e = option_map_or (λ s. at_if (is_among no_parents s.name) s.at) e.parent []

abbrev pub wrong_parents : Parts → List ℕ
wrong_parents P = flat_map wrong_parent P.events

-- ---- rules 9 and 10: an event type that is its own ancestor; one with over 8 attributes or two
-- of one name, inherited ones included; at its name

-- the declared event types with their numbers
abbrev pub numbered_events : Parts → List (ℕ × EventPart)
numbered_events P = enumerate_from 4 P.events

abbrev pub own_ancestors : Parts → List ℕ
own_ancestors P = flat_map (λ x. at_if (is_on_cycle (event_rows P) x.0) x.1.name.at) (numbered_events P)

-- two of the names are equal
abbrev pub has_repeat : List Name → Bool
has_repeat [] = false
has_repeat (n ∷ ns) = is_among ns n || has_repeat ns

abbrev pub has_wrong_attributes : List Name → Bool
has_wrong_attributes names = nat_lt 8 (length names) || has_repeat names

abbrev pub wrong_attributes : Parts → List ℕ
wrong_attributes P = flat_map (λ x. at_if (has_wrong_attributes (attribute_names P x.0)) x.1.name.at) (numbered_events P)

-- ---- rule 11: more declarations of a kind than there may be; at the first name over

abbrev pub over : ℕ → List Spot → List ℕ
over limit spots = places_of (take 1 (drop limit spots))

abbrev pub init_parameters_of : OnPart → List Spot
init_parameters_of (on.Init spots) = spots
init_parameters_of _ = []

abbrev pub over_in_component : ComponentPart → List ℕ
over_in_component c =
    over 16 (port_spots c) ++ (over 64 (var_spots c) ++ (over 32 (slot_spots c) ++ (over 64 (channel_spots c) ++ (over 64 (handler_spots c)
    ++ flat_map (λ h. over 8 (init_parameters_of h.on)) c.handlers))))

abbrev pub too_many : Parts → List ℕ
too_many P =
    over 256 (event_spots P) ++ (over 128 (port_type_spots P) ++ (over 128 (component_spots P)
    ++ (flat_map (λ t. over 64 t.plus ++ over 64 t.minus) P.ports ++ flat_map over_in_component P.components)))

-- ---- rule 12: no root, at the end of the text; or a second one, at its word

abbrev pub wrong_roots : Parts → List ℕ
wrong_roots P = at_if (length P.roots == 0) P.end ++ map (λ r. r.at) (take 1 (drop 1 P.roots))
