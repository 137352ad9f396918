-- Names that are not declared, without places.
use Rattle.std.proofs.Common.{◌≡◌, not, List, [], ◌++◌, map, Option, refl, ap}
use Rattle.std.specs.List.{flat_map}
use Rattle.std.specs.Option.{option_map, option_map_or}
use Rattle.kom_system.specs.declared.parts.Spot.{Spot}
use Rattle.kom_system.specs.declared.parts.StmtPart.{StmtPart}
use Rattle.kom_system.specs.declared.parts.StmtPart.TheOpen.{Let, Set, If, While, Trigger, Answer, Create, CreateFromState, Start, Stop, Destroy, Dump, Hold, Resume, Unplug, Plug, Subscribe, Unsubscribe, Fail, Escalate}
use Rattle.kom_system.specs.declared.parts.TargetPart.{TargetPart}
use Rattle.kom_system.specs.declared.parts.TargetPart.TheVariants as to
use Rattle.kom_system.specs.declared.parts.EndPart.{EndPart}
use Rattle.kom_system.specs.declared.parts.EndPart.TheVariants as end
use Rattle.kom_system.specs.declared.parts.OnPart.{OnPart}
use Rattle.kom_system.specs.declared.parts.OnPart.TheVariants as on
use Rattle.kom_system.specs.declared.parts.ChildPart.{ChildPart}
use Rattle.kom_system.specs.declared.parts.TestPart.{TestPart}
use Rattle.kom_system.specs.declared.parts.ChannelPart.{ChannelPart}
use Rattle.kom_system.specs.declared.parts.HandlerPart.{HandlerPart}
use Rattle.kom_system.specs.declared.parts.ComponentPart.{ComponentPart}
use Rattle.kom_system.specs.declared.parts.Parts.{Parts}
use Rattle.kom_rules.specs.Names as names
use Rattle.kom_rules.specs.Names.{names_of, is_among, at_if, unknown}
use Rattle.kom_rules.specs.Walks.{One, max_levels}
use Rattle.kom_written.specs.Unplaced.{spot, target_part, on_part, handler_part, child_part, port_part, slot_part, end_part, test_part, channel_part, component_part, event_part, port_type_part, root_part, unplaced}
use Rattle.kom_unplaced.proofs.Lists.{AsMany, nothing, one, both, each, maybe}
use Rattle.kom_unplaced.proofs.Exprs.{one_part, in_expressions_same, statements_same}
use Rattle.kom_rules.specs.Declaring.{unknown_event, unknown_port_type, unknown_component, unknown_port, unknown_slot, unknown_channel, unknown_handler, unknown_value, unknown_end, unknown_in_channel, unknown_in_on, unknown_target, unknown_in_one, unknown_at, unknown_in_handler, unknown_types, unknown_inside, unknown_in_component, undeclared}
use Rattle.kom_unplaced.proofs.Names.{port_names_same, var_names_same, slot_names_same, channel_names_same, handler_names_same, slot_named_same, event_names_same, port_type_names_same, component_names_same, type_in_same}

unknown_same : {ns' ns : List names.Name} (s : Spot) → ns' ≡ ns → AsMany (unknown ns' (spot s)) (unknown ns s)
unknown_same s e = one _ _ (ap (λ ns. not (is_among ns s.name)) e)

port_same : (c : ComponentPart) (s : Spot) → AsMany (unknown_port (component_part c) (spot s)) (unknown_port c s)
port_same c s = unknown_same s (port_names_same c)

slot_same : (c : ComponentPart) (s : Spot) → AsMany (unknown_slot (component_part c) (spot s)) (unknown_slot c s)
slot_same c s = unknown_same s (slot_names_same c)

channel_same : (c : ComponentPart) (s : Spot) → AsMany (unknown_channel (component_part c) (spot s)) (unknown_channel c s)
channel_same c s = unknown_same s (channel_names_same c)

handler_same : (c : ComponentPart) (s : Spot) → AsMany (unknown_handler (component_part c) (spot s)) (unknown_handler c s)
handler_same c s = unknown_same s (handler_names_same c)

value_same : (c : ComponentPart) (scope : List names.Name) (s : Spot) → AsMany (unknown_value (component_part c) scope (spot s)) (unknown_value c scope s)
value_same c scope s = unknown_same s (ap (λ ns. ns ++ scope) (var_names_same c))

target_same : (c : ComponentPart) (t : TargetPart) → AsMany (unknown_target (component_part c) (target_part t)) (unknown_target c t)
target_same c (to.Own port) = port_same c port
target_same c (to.Child slot port) = slot_same c slot

module _ (P : Parts) where
  event_same : (s : Spot) → AsMany (unknown_event (unplaced P) (spot s)) (unknown_event P s)
  event_same s = unknown_same s (event_names_same P)

  port_type_same : (s : Spot) → AsMany (unknown_port_type (unplaced P) (spot s)) (unknown_port_type P s)
  port_type_same s = unknown_same s (port_type_names_same P)

  component_same : (s : Spot) → AsMany (unknown_component (unplaced P) (spot s)) (unknown_component P s)
  component_same s = unknown_same s (component_names_same P)

  tests_same : (ts : List TestPart) → AsMany (flat_map (λ (t : TestPart). unknown_event (unplaced P) t.kind) (map test_part ts)) (flat_map (λ (t : TestPart). unknown_event P t.kind) ts)
  tests_same ts = each _ _ test_part ts (λ t. event_same t.kind)

  listed_same : (ns : List Spot) → AsMany (flat_map (unknown_event (unplaced P)) (map spot ns)) (flat_map (unknown_event P) ns)
  listed_same ns = each _ _ spot ns event_same

  module _ (c : ComponentPart) where
    end_same : (p : EndPart) → AsMany (unknown_end (unplaced P) (component_part c) (end_part p)) (unknown_end P c p)
    end_same end.Free = nothing
    end_same (end.Own port) = port_same c port
    end_same (end.Child slot port) = both (slot_same c slot) (maybe _ _ slot_part _ _ (slot_named_same c slot) (λ s. maybe _ _ component_part _ _ (type_in_same P s) (λ t. port_same t port)))

    in_channel_same : (k : ChannelPart) → AsMany (unknown_in_channel (unplaced P) (component_part c) (channel_part k)) (unknown_in_channel P c k)
    in_channel_same k = both (port_type_same k.port) (both (both (end_same k.plus) (end_same k.minus)) (both (tests_same k.plus_when) (tests_same k.minus_when)))

    in_on_same : (o : OnPart) → AsMany (unknown_in_on (unplaced P) (component_part c) (on_part o)) (unknown_in_on P c o)
    in_on_same (on.Event kind port) = both (event_same kind) (port_same c port)
    in_on_same (on.Init ns) = nothing
    in_on_same on.Start = nothing
    in_on_same on.Stop = nothing
    in_on_same (on.Fault slot n) = nothing
    in_on_same (on.Dumped slot) = nothing

    in_one_same : (scope : List names.Name) (below : List StmtPart → List StmtPart) (s : One) → AsMany (unknown_in_one (unplaced P) (component_part c) scope (one_part below s)) (unknown_in_one P c scope s)
    in_one_same scope below (Let n e) = nothing
    in_one_same scope below (Set n e) = value_same c scope n
    in_one_same scope below (If e block other) = nothing
    in_one_same scope below (While e block) = nothing
    in_one_same scope below (Trigger kind es port) = both (event_same kind) (port_same c port)
    in_one_same scope below (Answer a kind es) = event_same kind
    in_one_same scope below (Create slot kind es) = both (slot_same c slot) (component_same kind)
    in_one_same scope below (CreateFromState slot kind a) = both (slot_same c slot) (component_same kind)
    in_one_same scope below (Start s) = slot_same c s
    in_one_same scope below (Stop s) = slot_same c s
    in_one_same scope below (Destroy s) = slot_same c s
    in_one_same scope below (Dump s) = slot_same c s
    in_one_same scope below (Hold s) = channel_same c s
    in_one_same scope below (Resume s) = channel_same c s
    in_one_same scope below (Subscribe s) = handler_same c s
    in_one_same scope below (Unsubscribe s) = handler_same c s
    in_one_same scope below (Unplug wire d) = channel_same c wire
    in_one_same scope below (Plug wire d t) = both (channel_same c wire) (target_same c t)
    in_one_same scope below (Fail n a) = nothing
    in_one_same scope below (Escalate a) = nothing

    at_same : (scope : List names.Name) (below : List StmtPart → List StmtPart) (s : One)
        → AsMany (unknown_at (unplaced P) (component_part c) (record { scope = scope; stmt = one_part below s })) (unknown_at P c (record { scope = scope; stmt = s }))
    at_same scope below s = both (in_one_same scope below s) (in_expressions_same (unknown_value c scope) (unknown_value (component_part c) scope) (λ a n. []) (λ a n. []) (value_same c scope) (λ a n. nothing) below s)

    in_handler_same : (h : HandlerPart) → AsMany (unknown_in_handler (unplaced P) (component_part c) (handler_part h)) (unknown_in_handler P c h)
    in_handler_same h = both (in_on_same h.on) (statements_same (unknown_at (unplaced P) (component_part c)) (unknown_at P c) at_same max_levels h)

    child_same : (o : Option ChildPart) → AsMany (option_map_or (λ (x : ChildPart). unknown_component (unplaced P) x.kind) (option_map child_part o) []) (option_map_or (λ (x : ChildPart). unknown_component P x.kind) o [])
    child_same o = maybe _ _ child_part _ o refl (λ x. component_same x.kind)

    types_same : AsMany (unknown_types (unplaced P) (component_part c)) (unknown_types P c)
    types_same = both (each _ _ port_part c.ports (λ p. port_type_same p.port)) (each _ _ slot_part c.slots (λ s. child_same s.child))

    inside_same : AsMany (unknown_inside (unplaced P) (component_part c)) (unknown_inside P c)
    inside_same = both (each _ _ channel_part c.channels in_channel_same) (each _ _ handler_part c.handlers in_handler_same)

    in_component_same : AsMany (unknown_in_component (unplaced P) (component_part c)) (unknown_in_component P c)
    in_component_same = both types_same inside_same

  pub undeclared_same : AsMany (undeclared (unplaced P)) (undeclared P)
  undeclared_same =
      both (both (each _ _ event_part P.events (λ e. maybe _ _ spot _ e.parent refl event_same)) (each _ _ port_type_part P.ports (λ t. both (listed_same t.plus) (listed_same t.minus))))
      (both (each _ _ component_part P.components in_component_same) (each _ _ root_part P.roots (λ r. component_same r.child.kind)))
