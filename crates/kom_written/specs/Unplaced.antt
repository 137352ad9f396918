-- A syntax tree without its places: each place is 0.
use Rattle.std.specs.Prelude.{ℕ, zero, suc, List, [], map}
use Rattle.std.specs.Option.{option_map}
use Rattle.kom_system.specs.declared.parts.Spot.{Spot}
use Rattle.kom_system.specs.declared.parts.ExprPart.{ExprPart, Number, Name, It, Neg', Not', Pair', more_of-ExprPart}
use Rattle.kom_system.specs.declared.parts.ExprPart.TheVariants as expr
use Rattle.kom_system.specs.declared.parts.StmtPart.{StmtPart, out-StmtPart}
use Rattle.kom_system.specs.declared.parts.StmtPart.TheOpen.{Let, Set, If, While, Trigger, Answer, Create, CreateFromState, Start, Stop, Destroy, Dump, Hold, Resume, Unplug, Plug, Subscribe, Unsubscribe, Fail, Escalate}
use Rattle.kom_system.specs.declared.parts.StmtPart.TheVariants as stmt
use Rattle.kom_system.specs.declared.parts.TargetPart.{TargetPart}
use Rattle.kom_system.specs.declared.parts.TargetPart.TheVariants as to
use Rattle.kom_system.specs.declared.parts.EndPart.{EndPart}
use Rattle.kom_system.specs.declared.parts.EndPart.TheVariants as end
use Rattle.kom_system.specs.declared.parts.OnPart.{OnPart}
use Rattle.kom_system.specs.declared.parts.OnPart.TheVariants as on
use Rattle.kom_system.specs.declared.parts.ChildPart.{ChildPart}
use Rattle.kom_system.specs.declared.parts.PortPart.{PortPart}
use Rattle.kom_system.specs.declared.parts.VarPart.{VarPart}
use Rattle.kom_system.specs.declared.parts.SlotPart.{SlotPart}
use Rattle.kom_system.specs.declared.parts.TestPart.{TestPart}
use Rattle.kom_system.specs.declared.parts.ChannelPart.{ChannelPart}
use Rattle.kom_system.specs.declared.parts.HandlerPart.{HandlerPart}
use Rattle.kom_system.specs.declared.parts.ComponentPart.{ComponentPart}
use Rattle.kom_system.specs.declared.parts.EventPart.{EventPart}
use Rattle.kom_system.specs.declared.parts.PortTypePart.{PortTypePart}
use Rattle.kom_system.specs.declared.parts.RootPart.{RootPart}
use Rattle.kom_system.specs.declared.parts.Parts.{Parts}
use Rattle.kom_rules.specs.Walks.{One, max_levels}

abbrev pub spot : Spot → Spot
spot s = record { name = s.name; at = 0 }

abbrev pub spots : List Spot → List Spot
spots xs = map spot xs

-- ---- handlers

abbrev pub expr_part : ExprPart → ExprPart
expr_part (Number n) = expr.Number n
expr_part (Name s) = expr.Name (spot s)
expr_part (It a s) = expr.It 0 (spot s)
expr_part (Neg' p (more_of-ExprPart e r)) = expr.Neg (expr_part e)
expr_part (Not' p (more_of-ExprPart e r)) = expr.Not (expr_part e)
expr_part (Pair' op p (more_of-ExprPart left r) q (more_of-ExprPart right r')) = expr.Pair op (expr_part left) (expr_part right)

abbrev pub target_part : TargetPart → TargetPart
target_part (to.Own port) = to.Own (spot port)
target_part (to.Child slot port) = to.Child (spot slot) (spot port)

-- a statement, where `below` gives its blocks
abbrev pub stmt_part : (List StmtPart → List StmtPart) → One → StmtPart
stmt_part below (Let n e) = stmt.Let (spot n) (expr_part e)
stmt_part below (Set n e) = stmt.Set (spot n) (expr_part e)
stmt_part below (If e block other) = stmt.If (expr_part e) (below block) (option_map below other)
stmt_part below (While e block) = stmt.While (expr_part e) (below block)
stmt_part below (Trigger kind es port) = stmt.Trigger (spot kind) (map expr_part es) (spot port)
stmt_part below (Answer a kind es) = stmt.Answer 0 (spot kind) (map expr_part es)
stmt_part below (Create slot kind es) = stmt.Create (spot slot) (spot kind) (map expr_part es)
stmt_part below (CreateFromState slot kind a) = stmt.CreateFromState (spot slot) (spot kind) 0
stmt_part below (Start slot) = stmt.Start (spot slot)
stmt_part below (Stop slot) = stmt.Stop (spot slot)
stmt_part below (Destroy slot) = stmt.Destroy (spot slot)
stmt_part below (Dump slot) = stmt.Dump (spot slot)
stmt_part below (Hold wire) = stmt.Hold (spot wire)
stmt_part below (Resume wire) = stmt.Resume (spot wire)
stmt_part below (Unplug wire e) = stmt.Unplug (spot wire) e
stmt_part below (Plug wire e t) = stmt.Plug (spot wire) e (target_part t)
stmt_part below (Subscribe h) = stmt.Subscribe (spot h)
stmt_part below (Unsubscribe h) = stmt.Unsubscribe (spot h)
stmt_part below (Fail number a) = stmt.Fail number 0
stmt_part below (Escalate a) = stmt.Escalate 0

-- the statements of a block, and of the blocks inside it, as deep as so many levels
abbrev pub block_part : ℕ → List StmtPart → List StmtPart
block_part zero block = []
block_part (suc levels) block = map (λ s. stmt_part (block_part levels) (out-StmtPart s)) block

abbrev pub on_part : OnPart → OnPart
on_part (on.Event kind port) = on.Event (spot kind) (spot port)
on_part (on.Init names) = on.Init (spots names)
on_part on.Start = on.Start
on_part on.Stop = on.Stop
on_part (on.Fault slot number) = on.Fault (spot slot) (spot number)
on_part (on.Dumped slot) = on.Dumped (spot slot)

abbrev pub handler_part : HandlerPart → HandlerPart
handler_part h = record { name = spot h.name; on = on_part h.on; off = h.off; block = block_part max_levels h.block }

-- ---- component types

abbrev pub child_part : ChildPart → ChildPart
child_part c = record { kind = spot c.kind; args = c.args }

abbrev pub port_part : PortPart → PortPart
port_part p = record { name = spot p.name; port = spot p.port; provided = p.provided }

abbrev pub var_part : VarPart → VarPart
var_part v = record { name = spot v.name; first = v.first }

abbrev pub slot_part : SlotPart → SlotPart
slot_part s = record { name = spot s.name; child = option_map child_part s.child }

abbrev pub end_part : EndPart → EndPart
end_part end.Free = end.Free
end_part (end.Own port) = end.Own (spot port)
end_part (end.Child slot port) = end.Child (spot slot) (spot port)

abbrev pub test_part : TestPart → TestPart
test_part t = record { kind = spot t.kind; attr = spot t.attr; op = t.op; number = t.number }

abbrev pub channel_part : ChannelPart → ChannelPart
channel_part k = record {
  name = spot k.name;
  port = spot k.port;
  plus = end_part k.plus;
  minus = end_part k.minus;
  plus_when = map test_part k.plus_when;
  minus_when = map test_part k.minus_when;
}

abbrev pub component_part : ComponentPart → ComponentPart
component_part c = record {
  name = spot c.name;
  ports = map port_part c.ports;
  vars = map var_part c.vars;
  slots = map slot_part c.slots;
  channels = map channel_part c.channels;
  handlers = map handler_part c.handlers;
}

-- ---- files

abbrev pub event_part : EventPart → EventPart
event_part e = record { name = spot e.name; parent = option_map spot e.parent; attrs = spots e.attrs }

abbrev pub port_type_part : PortTypePart → PortTypePart
port_type_part t = record { name = spot t.name; plus = spots t.plus; minus = spots t.minus }

abbrev pub root_part : RootPart → RootPart
root_part r = record { at = 0; child = child_part r.child }

abbrev pub unplaced : Parts → Parts
unplaced P = record {
  version = P.version;
  events = map event_part P.events;
  ports = map port_type_part P.ports;
  components = map component_part P.components;
  roots = map root_part P.roots;
  end = 0;
}
