-- The system that a syntax tree stands for: each name that is used is replaced by the number of
-- what it names, from 0 in the order of declaration.
use Rattle.std.specs.Prelude.{ℕ, zero, suc, ℤ, pos, negsuc, min, if◌then◌else◌, List, [], ◌∷◌, length, map, slice_get, Option, Some, None}
use Rattle.std.specs.List.{range_with_len}
use Rattle.std.specs.Option.{option_map, option_map_or, option_and_then}
use Rattle.kom_events.specs.declared.selector.Test.{Test}
use Rattle.kom_lang.specs.declared.expr.Expr.{Expr}
use Rattle.kom_lang.specs.declared.expr.Expr.TheVariants as expr
use Rattle.kom_lang.specs.declared.kind.Kind.{Kind}
use Rattle.kom_lang.specs.declared.kind.Child.{Child}
use Rattle.kom_lang.specs.declared.kind.Place.{Place}
use Rattle.kom_lang.specs.declared.kind.PortDecl.{PortDecl}
use Rattle.kom_lang.specs.declared.kind.VarDecl.{VarDecl}
use Rattle.kom_lang.specs.declared.kind.SlotDecl.{SlotDecl}
use Rattle.kom_lang.specs.declared.kind.ChannelDecl.{ChannelDecl}
use Rattle.kom_lang.specs.declared.stmt.Handler.{Handler}
use Rattle.kom_lang.specs.declared.stmt.On.{On}
use Rattle.kom_lang.specs.declared.stmt.On.TheVariants as handles
use Rattle.kom_lang.specs.declared.stmt.Stmt.{Stmt}
use Rattle.kom_lang.specs.declared.stmt.Stmt.TheVariants as stmt
use Rattle.kom_lang.specs.declared.stmt.Target.{Target}
use Rattle.kom_lang.specs.declared.stmt.Target.TheVariants as target
use Rattle.kom_system.specs.declared.parts.Spot.{Spot}
use Rattle.kom_system.specs.declared.parts.ExprPart.{ExprPart, Number, Name, It, Neg', Not', Pair', more_of-ExprPart}
use Rattle.kom_system.specs.declared.parts.StmtPart.{StmtPart, out-StmtPart}
use Rattle.kom_system.specs.declared.parts.StmtPart.TheOpen.{Let, Set, If, While, Trigger, Answer, Create, CreateFromState, Start, Stop, Destroy, Dump, Hold, Resume, Unplug, Plug, Subscribe, Unsubscribe, Fail, Escalate}
use Rattle.kom_system.specs.declared.parts.TargetPart.{TargetPart}
use Rattle.kom_system.specs.declared.parts.TargetPart.TheVariants as to
use Rattle.kom_system.specs.declared.parts.EndPart.{EndPart}
use Rattle.kom_system.specs.declared.parts.EndPart.TheVariants as end
use Rattle.kom_system.specs.declared.parts.OnPart.{OnPart}
use Rattle.kom_system.specs.declared.parts.OnPart.TheVariants as on
use Rattle.kom_system.specs.declared.parts.ChildPart.{ChildPart}
use Rattle.kom_system.specs.declared.parts.PortPart.{PortPart}
use Rattle.kom_system.specs.declared.parts.VarPart.{VarPart}
use Rattle.kom_system.specs.declared.parts.SlotPart.{SlotPart}
use Rattle.kom_system.specs.declared.parts.TestPart.{TestPart}
use Rattle.kom_system.specs.declared.parts.ChannelPart.{ChannelPart}
use Rattle.kom_system.specs.declared.parts.HandlerPart.{HandlerPart}
use Rattle.kom_system.specs.declared.parts.ComponentPart.{ComponentPart}
use Rattle.kom_system.specs.declared.parts.Parts.{Parts}
use Rattle.kom_system.specs.Contents.{Contents}
use Rattle.kom_rules.specs.Names as names
use Rattle.kom_rules.specs.Names.{names_of, number_in, is_among, each_once}
use Rattle.kom_rules.specs.Spaces.{event_names, port_type_names, event_number, port_type_number, component_number, event_rows, port_rows, attribute_names, port_spots, var_spots, slot_spots, channel_spots, handler_spots, slot_named, type_in, parameters}
use Rattle.kom_rules.specs.Walks.{One, after, max_levels}

-- ---- numbers of what a component type declares

abbrev pub port_number : ComponentPart → Spot → ℕ
port_number c s = number_in (names_of (port_spots c)) s.name

abbrev pub slot_number : ComponentPart → Spot → ℕ
slot_number c s = number_in (names_of (slot_spots c)) s.name

abbrev pub channel_number : ComponentPart → Spot → ℕ
channel_number c s = number_in (names_of (channel_spots c)) s.name

abbrev pub handler_number : ComponentPart → Spot → ℕ
handler_number c s = number_in (names_of (handler_spots c)) s.name

-- ---- expressions

-- a name of a variable stands for it, any other for the name in scope
abbrev pub named_value : List names.Name → List names.Name → names.Name → Expr
named_value vars scope n = if is_among vars n then expr.Var (number_in vars n) else expr.Local (number_in scope n)

-- an expression, given the names of the variables, of the attributes of the event in hand, and in scope
abbrev pub expr_value : List names.Name → List names.Name → List names.Name → ExprPart → Expr
expr_value vars attrs scope (Number n) = expr.Number n
expr_value vars attrs scope (Name s) = named_value vars scope s.name
expr_value vars attrs scope (It a s) = expr.It (number_in attrs s.name)
expr_value vars attrs scope (Neg' p (more_of-ExprPart e r)) = expr.Neg (expr_value vars attrs scope e)
expr_value vars attrs scope (Not' p (more_of-ExprPart e r)) = expr.Not (expr_value vars attrs scope e)
expr_value vars attrs scope (Pair' op p (more_of-ExprPart left r) q (more_of-ExprPart right r')) = expr.Pair op (expr_value vars attrs scope left) (expr_value vars attrs scope right)

-- the attributes that `it` has in a handler
abbrev pub attributes_of_it : Parts → OnPart → List names.Name
attributes_of_it P (on.Event kind port) = attribute_names P (event_number P kind)
attributes_of_it P _ = []

-- ---- statements

abbrev pub target_value : ComponentPart → TargetPart → Target
target_value c (to.Own port) = target.Own (port_number c port)
target_value c (to.Child slot port) = target.Child (slot_number c slot) port.name

-- the number of a fault, at most 899
abbrev pub fault_number : ℤ → ℕ
fault_number (pos n) = min n 899
fault_number (negsuc n) = 0

module _ (P : Parts) (c : ComponentPart) (o : OnPart) where
  -- an expression of the handler with these names in scope
  abbrev pub expr_in : List names.Name → ExprPart → Expr
  expr_in scope e = expr_value (names_of (var_spots c)) (attributes_of_it P o) scope e

  abbrev pub set_value : List names.Name → names.Name → Expr → Stmt
  set_value scope n e = if is_among (names_of (var_spots c)) n then stmt.SetVar (number_in (names_of (var_spots c)) n) e else stmt.SetLocal (number_in scope n) e

  -- a statement with these names in scope, where `below` gives its blocks
  abbrev pub stmt_value : (List names.Name → List StmtPart → List Stmt) → List names.Name → One → Stmt
  stmt_value below scope (Let n e) = stmt.Let n.name (expr_in scope e)
  stmt_value below scope (Set n e) = set_value scope n.name (expr_in scope e)
  stmt_value below scope (If e block other) = stmt.If (expr_in scope e) (below scope block) (option_map (below scope) other)
  stmt_value below scope (While e block) = stmt.While (expr_in scope e) (below scope block)
  stmt_value below scope (Trigger kind es port) = stmt.Trigger (event_number P kind) (map (expr_in scope) es) (port_number c port)
  stmt_value below scope (Answer a kind es) = stmt.Answer (event_number P kind) (map (expr_in scope) es)
  stmt_value below scope (Create slot kind es) = stmt.Create (slot_number c slot) (component_number P kind) (map (expr_in scope) es)
  stmt_value below scope (CreateFromState slot kind a) = stmt.CreateFromState (slot_number c slot) (component_number P kind)
  stmt_value below scope (Start slot) = stmt.Start (slot_number c slot)
  stmt_value below scope (Stop slot) = stmt.Stop (slot_number c slot)
  stmt_value below scope (Destroy slot) = stmt.Destroy (slot_number c slot)
  stmt_value below scope (Dump slot) = stmt.Dump (slot_number c slot)
  stmt_value below scope (Hold wire) = stmt.Hold (channel_number c wire)
  stmt_value below scope (Resume wire) = stmt.Resume (channel_number c wire)
  stmt_value below scope (Unplug wire e) = stmt.Unplug (channel_number c wire) e
  stmt_value below scope (Plug wire e t) = stmt.Plug (channel_number c wire) e (target_value c t)
  stmt_value below scope (Subscribe h) = stmt.Subscribe (handler_number c h)
  stmt_value below scope (Unsubscribe h) = stmt.Unsubscribe (handler_number c h)
  stmt_value below scope (Fail number a) = stmt.Fail (fault_number number)
  stmt_value below scope (Escalate a) = stmt.Escalate

  abbrev pub row_value : (List names.Name → List StmtPart → List Stmt) → List names.Name → List StmtPart → List Stmt
  row_value below scope [] = []
  row_value below scope (s ∷ rest) = stmt_value below scope (out-StmtPart s) ∷ row_value below (after scope (out-StmtPart s)) rest

  -- a block of at most so many levels; a deeper one, which no file has, is empty
  abbrev pub block_value : ℕ → List names.Name → List StmtPart → List Stmt
  block_value zero scope block = []
  block_value (suc levels) scope block = row_value (block_value levels) scope block

-- ---- component types

abbrev pub on_value : Parts → ComponentPart → OnPart → On
on_value P c (on.Event kind port) = handles.Event (event_number P kind) (port_number c port)
on_value P c (on.Init spots) = handles.Init (names_of spots)
on_value P c on.Start = handles.Start
on_value P c on.Stop = handles.Stop
on_value P c (on.Fault slot number) = handles.Fault slot.name number.name
on_value P c (on.Dumped slot) = handles.Dumped slot.name

abbrev pub handler_value : Parts → ComponentPart → HandlerPart → Handler
handler_value P c h = record { name = h.name.name; on = on_value P c h.on; off = h.off; block = block_value P c h.on max_levels (each_once (names_of (parameters h.on))) h.block }

abbrev pub child_value : Parts → ChildPart → Child
child_value P child = record { kind = component_number P child.kind; args = child.args }

abbrev pub port_value : Parts → PortPart → PortDecl
port_value P p = record { name = p.name.name; port = port_type_number P p.port; provided = p.provided }

abbrev pub var_value : VarPart → VarDecl
var_value v = record { name = v.name.name; first = v.first }

abbrev pub slot_value : Parts → SlotPart → SlotDecl
slot_value P s = record { name = s.name.name; child = option_map (child_value P) s.child }

-- the number of a port of the component type in a slot; 0 where the slot has none
abbrev pub port_number_at : Parts → ComponentPart → Spot → Spot → ℕ
port_number_at P c slot port = option_map_or (λ t. port_number t port) (option_and_then (type_in P) (slot_named c slot)) 0

abbrev pub end_value : Parts → ComponentPart → EndPart → Option Place
end_value P c end.Free = None
end_value P c (end.Own port) = Some (record { slot = None; port = port_number c port })
end_value P c (end.Child slot port) = Some (record { slot = Some (slot_number c slot); port = port_number_at P c slot port })

abbrev pub test_value : Parts → TestPart → Test
test_value P t = record { kind = event_number P t.kind; attr = number_in (attribute_names P (event_number P t.kind)) t.attr.name; op = t.op; number = t.number }

abbrev pub channel_value : Parts → ComponentPart → ChannelPart → ChannelDecl
channel_value P c k = record { name = k.name.name; port = port_type_number P k.port; plus = end_value P c k.plus; minus = end_value P c k.minus; plus_when = map (test_value P) k.plus_when; minus_when = map (test_value P) k.minus_when }

abbrev pub kind_value : Parts → ComponentPart → Kind
kind_value P c = record { name = c.name.name; ports = map (port_value P) c.ports; vars = map var_value c.vars; slots = map (slot_value P) c.slots; channels = map (channel_value P c) c.channels; handlers = map (handler_value P c) c.handlers }

-- ---- the system

-- the first root; where there is none, a component type of the number 0 without arguments
abbrev pub root_value : Parts → Child
root_value P = option_map_or (λ r. child_value P r.child) (slice_get P.roots 0) (record { kind = 0; args = [] })

abbrev pub resolved : Parts → Contents
resolved P = record {
  declarations = record { events = event_rows P; ports = port_rows P; kinds = map (kind_value P) P.components; root = root_value P };
  event_names = event_names P;
  attr_names = map (attribute_names P) (range_with_len 0 (length (event_rows P)));
  port_names = port_type_names P;
  version = P.version;
}
