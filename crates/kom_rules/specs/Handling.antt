-- The rules that speak of the statements of handlers. For each the places at which a file breaks it.
use Rattle.std.specs.Prelude.{ℕ, pos, int_lt, Bool, true, false, not, ◌&&◌, ◌==◌, List, [], ◌++◌, length}
use Rattle.std.specs.List.{flat_map}
use Rattle.std.specs.Option.{option_map_or}
use Rattle.kom_events.specs.Kin.{attributes}
use Rattle.kom_events.specs.Ports.{passes}
use Rattle.kom_base.specs.declared.numbers.Dir.{Dir}
use Rattle.kom_system.specs.Statements.{outwards}
use Rattle.kom_system.specs.declared.parts.Spot.{Spot}
use Rattle.kom_system.specs.declared.parts.TargetPart.{TargetPart}
use Rattle.kom_system.specs.declared.parts.TargetPart.TheVariants as to
use Rattle.kom_system.specs.declared.parts.OnPart.{OnPart}
use Rattle.kom_system.specs.declared.parts.OnPart.TheVariants as on
use Rattle.kom_system.specs.declared.parts.StmtPart.TheOpen.{Trigger, Answer, CreateFromState, Plug, Subscribe, Unsubscribe, Fail, Escalate}
use Rattle.kom_system.specs.declared.parts.ComponentPart.{ComponentPart}
use Rattle.kom_system.specs.declared.parts.Parts.{Parts}
use Rattle.kom_rules.specs.Names.{is_among, at_if}
use Rattle.kom_rules.specs.Spaces.{event_number, port_type_number, event_rows, port_rows, attribute_names, port_named, channel_named, handler_named, is_init}
use Rattle.kom_rules.specs.Walks.{One, in_expressions, of_statements}
use Rattle.kom_rules.specs.Fitting.{is_of_type, takes_end}

-- ---- rule 22: `subscribe` or `unsubscribe` of an init handler, at the name

abbrev pub init_named : ComponentPart → Spot → List ℕ
init_named c h = at_if (option_map_or (λ x. is_init x.on) (handler_named c h) false) h.at

abbrev pub subscribed_init : Parts → ComponentPart → OnPart → One → List ℕ
subscribed_init P c o (Subscribe h) = init_named c h
subscribed_init P c o (Unsubscribe h) = init_named c h
subscribed_init P c o _ = []

-- ---- rule 23: a trigger, or an answer in an event handler, of a type that does not pass outwards
-- at its port, which for an answer is that of its handler; at the event type's name

abbrev pub stays : Parts → ComponentPart → Spot → Spot → List ℕ
stays P c port kind = option_map_or (λ p. at_if (not (passes (event_rows P) (port_rows P) (port_type_number P p.port) (outwards p.provided) (event_number P kind))) kind.at) (port_named c port) []

abbrev pub answer_stays : Parts → ComponentPart → OnPart → Spot → List ℕ
answer_stays P c (on.Event handled port) kind = stays P c port kind
answer_stays P c _ kind = []

abbrev pub kept_inside : Parts → ComponentPart → OnPart → One → List ℕ
kept_inside P c o (Trigger kind es port) = stays P c port kind
kept_inside P c o (Answer a kind es) = answer_stays P c o kind
kept_inside P c o _ = []

-- ---- rule 24: a trigger or an answer whose count of values is not the count of attributes, at
-- the event type's name

abbrev pub wrong_values : Parts → Spot → ℕ → List ℕ
wrong_values P kind count = at_if (not (count == attributes (event_rows P) (event_number P kind))) kind.at

abbrev pub miscounted : Parts → ComponentPart → OnPart → One → List ℕ
miscounted P c o (Trigger kind es port) = wrong_values P kind (length es)
miscounted P c o (Answer a kind es) = wrong_values P kind (length es)
miscounted P c o _ = []

-- ---- rules 25, 26, 30 and 32: `create .. from state` outside a dumped handler, at `state`; `it`
-- and `answer` outside an event handler, `escalate` outside a fault handler, at the word

abbrev pub is_event : OnPart → Bool
is_event (on.Event kind port) = true
is_event _ = false

abbrev pub is_dumped : OnPart → Bool
is_dumped (on.Dumped slot) = true
is_dumped _ = false

abbrev pub is_fault : OnPart → Bool
is_fault (on.Fault slot number) = true
is_fault _ = false

abbrev pub no_state : Parts → ComponentPart → OnPart → One → List ℕ
no_state P c o (CreateFromState slot kind a) = at_if (not (is_dumped o)) a
no_state P c o _ = []

abbrev pub no_event : Parts → ComponentPart → OnPart → One → List ℕ
no_event P c o x = in_expressions (λ s. []) (λ a s. at_if (not (is_event o)) a) x

abbrev pub no_question : Parts → ComponentPart → OnPart → One → List ℕ
no_question P c o (Answer a kind es) = at_if (not (is_event o)) a
no_question P c o _ = []

abbrev pub no_fault : Parts → ComponentPart → OnPart → One → List ℕ
no_fault P c o (Escalate a) = at_if (not (is_fault o)) a
no_fault P c o _ = []

-- ---- rule 27: `fail` with a number over 899, at the number

abbrev pub large_fault : Parts → ComponentPart → OnPart → One → List ℕ
large_fault P c o (Fail number a) = at_if (int_lt (pos 899) number) a
large_fault P c o _ = []

-- ---- rule 28: `plug` at `self` where the port is not of the channel's port type or its half has
-- the wrong sign, at the port's name

abbrev pub misplugged_at : Parts → ComponentPart → Spot → Dir → Spot → List ℕ
misplugged_at P c wire e port =
    option_map_or (λ k. option_map_or (λ p. at_if (not (is_of_type k p && takes_end e p false)) port.at) (port_named c port) []) (channel_named c wire) []

abbrev pub misplugged_target : Parts → ComponentPart → Spot → Dir → TargetPart → List ℕ
misplugged_target P c wire e (to.Own port) = misplugged_at P c wire e port
misplugged_target P c wire e (to.Child slot port) = []

abbrev pub misplugged : Parts → ComponentPart → OnPart → One → List ℕ
misplugged P c o (Plug wire e target) = misplugged_target P c wire e target
misplugged P c o _ = []

-- ---- rule 29: an attribute that the event type does not have, at the attribute's name

abbrev pub lacks : Parts → Spot → Spot → List ℕ
lacks P kind attr = at_if (not (is_among (attribute_names P (event_number P kind)) attr.name)) attr.at

abbrev pub it_lacks : Parts → OnPart → Spot → List ℕ
it_lacks P (on.Event kind port) attr = lacks P kind attr
it_lacks P _ attr = []

abbrev pub lacked_by_it : Parts → ComponentPart → OnPart → One → List ℕ
lacked_by_it P c o x = in_expressions (λ s. []) (λ a s. it_lacks P o s) x

abbrev pub lacked_by_tests : Parts → List ℕ
lacked_by_tests P = flat_map (λ c. flat_map (λ k. flat_map (λ t. lacks P t.kind t.attr) k.plus_when ++ flat_map (λ t. lacks P t.kind t.attr) k.minus_when) c.channels) P.components

abbrev pub lacked : Parts → List ℕ
lacked P = of_statements lacked_by_it P ++ lacked_by_tests P
