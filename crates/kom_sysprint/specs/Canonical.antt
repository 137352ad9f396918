-- The canonical text of a system: its tokens, each with a space behind it, but `;`, `{` and `}`
-- with a newline. Every operator stands with its operands in parentheses.
use Rattle.std.specs.Prelude.{ℕ, zero, suc, ◌-◌, nat_lt, ℤ, pos, int_lt, unsigned_abs, Bool, true, false, if◌then◌else◌, List, [], ◌∷◌, ◌++◌, length, drop, slice_get, slice_index_or, Option, Some, None, codes}
use Rattle.std.specs.List.{flat_map, enumerate_from}
use Rattle.std.specs.Option.{option_map_or, option_and_then}
use Rattle.std.specs.Fmt.{decimal}
use Rattle.kom_base.specs.declared.numbers.Dir.{Dir}
use Rattle.kom_base.specs.declared.numbers.Dir.TheVariants.{Plus, Minus}
use Rattle.kom_events.specs.declared.event_types.EventRow.{EventRow}
use Rattle.kom_events.specs.declared.port_types.PortRow.{PortRow}
use Rattle.kom_events.specs.declared.selector.Op.{Op}
use Rattle.kom_events.specs.declared.selector.Op.TheVariants as op
use Rattle.kom_events.specs.declared.selector.Test.{Test}
use Rattle.kom_lang.specs.Declarations.{kind_of}
use Rattle.kom_lang.specs.declared.expr.Binary.{Binary}
use Rattle.kom_lang.specs.declared.expr.Binary.TheVariants.{Or, And, Eq, Ne, Lt, Le, Gt, Ge, Add, Sub, Mul, Div, Rem}
use Rattle.kom_lang.specs.declared.expr.Expr.{Expr, Number, Var, Local, It, Neg', Not', Pair', more_of-Expr}
use Rattle.kom_lang.specs.declared.kind.Child.{Child}
use Rattle.kom_lang.specs.declared.kind.ChannelDecl.{ChannelDecl}
use Rattle.kom_lang.specs.declared.kind.Kind.{Kind}
use Rattle.kom_lang.specs.declared.kind.Place.{Place}
use Rattle.kom_lang.specs.declared.kind.PortDecl.{PortDecl}
use Rattle.kom_lang.specs.declared.kind.SlotDecl.{SlotDecl}
use Rattle.kom_lang.specs.declared.kind.VarDecl.{VarDecl}
use Rattle.kom_lang.specs.declared.stmt.Handler.{Handler}
use Rattle.kom_lang.specs.declared.stmt.On.{On}
use Rattle.kom_lang.specs.declared.stmt.On.TheVariants as on
use Rattle.kom_lang.specs.declared.stmt.Stmt.{Stmt, Stmt-F, out-Stmt}
use Rattle.kom_lang.specs.declared.stmt.Stmt.TheOpen.{Let, SetVar, SetLocal, If, While, Trigger, Answer, Create, CreateFromState, Start, Stop, Destroy, Dump, Hold, Resume, Unplug, Plug, Subscribe, Unsubscribe, Fail, Escalate}
use Rattle.kom_lang.specs.declared.stmt.Target.{Target}
use Rattle.kom_lang.specs.declared.stmt.Target.TheVariants as target
use Rattle.kom_system.specs.Contents.{Contents}
use Rattle.kom_record.specs.Trace.{Text, port_name, slot_name, channel_name, direction}

-- ---- tokens

-- a word, a number or a sign, with a space behind it
abbrev pub word : Text → Text
word t = t ++ codes " "

abbrev pub number : ℕ → Text
number n = word (decimal n)

abbrev pub sign : ℤ → Text
sign v = if int_lt v (pos 0) then codes "- " else []

abbrev pub integer : ℤ → Text
integer v = sign v ++ number (unsigned_abs v)

-- the signs that end a line
abbrev pub end_of_line : Text
end_of_line = codes ";" ++ 10 ∷ []

abbrev pub opening : Text
opening = codes "{" ++ 10 ∷ []

abbrev pub closing : Text
closing = codes "}" ++ 10 ∷ []

abbrev pub block_of : Text → Text
block_of t = opening ++ t ++ closing

abbrev pub in_parentheses : Text → Text
in_parentheses t = codes "( " ++ t ++ codes ") "

-- what stands before the item with that number
abbrev pub between : Text → ℕ → Text
between separator zero = []
between separator (suc n) = separator

-- items with a separator between them
abbrev pub separated : {X : Type 0} → Text → (X → Text) → List X → Text
separated separator f xs = flat_map (λ p. between separator p.0 ++ f p.1) (enumerate_from 0 xs)

-- a list of arguments, parameters or attributes
abbrev pub arguments : {X : Type 0} → (X → Text) → List X → Text
arguments f xs = in_parentheses (separated (codes ", ") f xs)

-- ---- names by number

abbrev pub name_at : List Text → ℕ → Text
name_at names k = slice_index_or names k []

abbrev pub var_name : Kind → ℕ → Text
var_name K i = option_map_or (λ v. v.name) (slice_get K.vars i) []

abbrev pub handler_name : Kind → ℕ → Text
handler_name K i = option_map_or (λ h. h.name) (slice_get K.handlers i) []

-- an attribute of the events of a type
abbrev pub attr_name : Contents → ℕ → ℕ → Text
attr_name C k i = name_at (slice_index_or C.attr_names k []) i

-- an attribute of the event in hand
abbrev pub it_name : Contents → On → ℕ → Text
it_name C (on.Event k port) i = attr_name C k i
it_name C o i = []

-- the name of the component type with that number
abbrev pub kind_name : Contents → ℕ → Text
kind_name C k = (kind_of C.declarations k).name

-- ---- expressions

abbrev pub operator : Binary → Text
operator Or = codes "||"
operator And = codes "&&"
operator Eq = codes "=="
operator Ne = codes "!="
operator Lt = codes "<"
operator Le = codes "<="
operator Gt = codes ">"
operator Ge = codes ">="
operator Add = codes "+"
operator Sub = codes "-"
operator Mul = codes "*"
operator Div = codes "/"
operator Rem = codes "%"

abbrev pub relation : Op → Text
relation op.Eq = codes "=="
relation op.Ne = codes "!="
relation op.Lt = codes "<"
relation op.Le = codes "<="
relation op.Gt = codes ">"
relation op.Ge = codes ">="

-- ---- handlers

-- the names in scope at the begin of a handler
abbrev pub parameters : On → List Text
parameters (on.Init names) = names
parameters (on.Fault slot n) = slot ∷ n ∷ []
parameters (on.Dumped slot) = slot ∷ []
parameters o = []

-- the names in scope behind a statement
abbrev pub after : List Text → Stmt-F Stmt → List Text
after scope (Let name e) = scope ++ name ∷ []
after scope _ = scope

-- a keyword and a name
abbrev pub command : Text → Text → Text
command keyword name = word keyword ++ word name ++ end_of_line

-- two names with a dot between them
abbrev pub inside_of : Text → Text → Text
inside_of a b = word a ++ codes ". " ++ word b

-- an end of a channel
abbrev pub wire_end : Kind → ℕ → Dir → Text
wire_end K k end = inside_of (channel_name K k) (direction end)

abbrev pub target_text : Kind → Target → Text
target_text K (target.Own port) = inside_of (codes "self") (port_name K port)
target_text K (target.Child slot port) = inside_of (slot_name K slot) port

abbrev pub unsubscribe_text : Text → Text
unsubscribe_text handler = command (codes "unsubscribe") handler

abbrev pub unplug_text : Kind → ℕ → Dir → Text
unplug_text K k end = codes "unplug " ++ wire_end K k end ++ end_of_line

abbrev pub plug_text : Kind → ℕ → Dir → Target → Text
plug_text K k end t = codes "plug " ++ wire_end K k end ++ codes "at " ++ target_text K t ++ end_of_line

abbrev pub fail_text : ℕ → Text
fail_text n = codes "fail " ++ number n ++ end_of_line

-- a statement that names what it acts on
abbrev pub command_text : Kind → Stmt-F Stmt → Text
command_text K (Start s) = command (codes "start") (slot_name K s)
command_text K (Stop s) = command (codes "stop") (slot_name K s)
command_text K (Destroy s) = command (codes "destroy") (slot_name K s)
command_text K (Dump s) = command (codes "dump") (slot_name K s)
command_text K (Hold k) = command (codes "hold") (channel_name K k)
command_text K (Resume k) = command (codes "resume") (channel_name K k)
command_text K (Subscribe h) = command (codes "subscribe") (handler_name K h)
command_text K (Unsubscribe h) = unsubscribe_text (handler_name K h)
command_text K (Unplug k end) = unplug_text K k end
command_text K (Plug k end t) = plug_text K k end t
command_text K _ = []

-- in a handler of a component type; the third argument is what it handles
module _ (C : Contents) (K : Kind) (o : On) where
  abbrev pub expr_text : List Text → Expr → Text
  expr_text scope (Number n) = integer n
  expr_text scope (Var i) = word (var_name K i)
  expr_text scope (Local i) = word (name_at scope i)
  expr_text scope (It i) = codes "it . " ++ word (it_name C o i)
  expr_text scope (Neg' p (more_of-Expr e r)) = in_parentheses (codes "- " ++ expr_text scope e)
  expr_text scope (Not' p (more_of-Expr e r)) = in_parentheses (codes "! " ++ expr_text scope e)
  expr_text scope (Pair' op p (more_of-Expr left r) q (more_of-Expr right r')) = in_parentheses (expr_text scope left ++ word (operator op) ++ expr_text scope right)

  abbrev pub set_text : List Text → Text → Expr → Text
  set_text scope name e = word name ++ codes "= " ++ expr_text scope e ++ end_of_line

  abbrev pub let_text : List Text → Text → Expr → Text
  let_text scope name e = codes "let " ++ set_text scope name e

  -- an event type with the values of an event
  abbrev pub event_text : List Text → ℕ → List Expr → Text
  event_text scope k es = word (name_at C.event_names k) ++ arguments (expr_text scope) es

  abbrev pub trigger_text : List Text → ℕ → List Expr → ℕ → Text
  trigger_text scope k es port = codes "trigger " ++ event_text scope k es ++ codes "at " ++ word (port_name K port) ++ end_of_line

  abbrev pub answer_text : List Text → ℕ → List Expr → Text
  answer_text scope k es = codes "answer " ++ event_text scope k es ++ end_of_line

  -- a slot and the component type that is created in it
  abbrev pub created_text : ℕ → ℕ → Text
  created_text slot k = codes "create " ++ word (slot_name K slot) ++ codes ": " ++ word (kind_name C k)

  abbrev pub create_text : List Text → ℕ → ℕ → List Expr → Text
  create_text scope slot k es = created_text slot k ++ arguments (expr_text scope) es ++ end_of_line

  abbrev pub from_state_text : ℕ → ℕ → Text
  from_state_text slot k = created_text slot k ++ codes "from state " ++ end_of_line

  -- a statement without blocks
  abbrev pub plain_text : List Text → Stmt-F Stmt → Text
  plain_text scope (Let name e) = let_text scope name e
  plain_text scope (SetVar i e) = set_text scope (var_name K i) e
  plain_text scope (SetLocal i e) = set_text scope (name_at scope i) e
  plain_text scope (Trigger k es port) = trigger_text scope k es port
  plain_text scope (Answer k es) = answer_text scope k es
  plain_text scope (Create slot k es) = create_text scope slot k es
  plain_text scope (CreateFromState slot k) = from_state_text slot k
  plain_text scope (Fail n) = fail_text n
  plain_text scope Escalate = codes "escalate " ++ end_of_line
  plain_text scope s = command_text K s

  abbrev pub else_text : (List Stmt → Text) → Option (List Stmt) → Text
  else_text below None = []
  else_text below (Some other) = codes "else " ++ block_of (below other)

  abbrev pub if_text : (List Text → List Stmt → Text) → List Text → Expr → List Stmt → Option (List Stmt) → Text
  if_text below scope e block other = codes "if " ++ expr_text scope e ++ block_of (below scope block) ++ else_text (below scope) other

  abbrev pub while_text : (List Text → List Stmt → Text) → List Text → Expr → List Stmt → Text
  while_text below scope e block = codes "while " ++ expr_text scope e ++ block_of (below scope block)

  -- a statement, where `below` gives the text of the statements of its blocks
  abbrev pub statement_text : (List Text → List Stmt → Text) → List Text → Stmt-F Stmt → Text
  statement_text below scope (If e block other) = if_text below scope e block other
  statement_text below scope (While e block) = while_text below scope e block
  statement_text below scope s = plain_text scope s

  -- statements one after another
  abbrev pub row_text : (List Text → List Stmt → Text) → List Text → List Stmt → Text
  row_text below scope [] = []
  row_text below scope (s ∷ rest) = statement_text below scope (out-Stmt s) ++ row_text below (after scope (out-Stmt s)) rest

  -- the statements of a block, and of the blocks inside it, as deep as so many levels
  abbrev pub statements_text : ℕ → List Text → List Stmt → Text
  statements_text zero scope block = []
  statements_text (suc levels) scope block = row_text (statements_text levels) scope block

-- blocks are nested no deeper in a file
abbrev pub max_levels : ℕ
max_levels = 16

-- ---- declarations

abbrev pub init_text : List Text → Text
init_text names = codes "init " ++ arguments word names

abbrev pub fault_text : Text → Text → Text
fault_text slot n = codes "fault ( " ++ word slot ++ codes ", " ++ word n ++ codes ") "

abbrev pub dumped_text : Text → Text
dumped_text slot = codes "dumped ( " ++ word slot ++ codes ") "

abbrev pub off_text : Bool → Text
off_text true = codes "off "
off_text false = []

abbrev pub side_text : Bool → Text
side_text true = codes "provides "
side_text false = codes "requires "

-- the attributes that an event type adds are the last ones
abbrev pub own_names : ℕ → List Text → List Text
own_names own names = drop (length names - own) names

-- the built-in types, which come first, are not written
abbrev pub declared_text : {X : Type 0} → ℕ → (ℕ → X → Text) → ℕ × X → Text
declared_text first f p = if nat_lt p.0 first then [] else f p.0 p.1

abbrev pub header_text : ℕ → Text
header_text version = codes "system " ++ number version ++ end_of_line

module _ (C : Contents) where
  abbrev pub event_at_text : Kind → ℕ → ℕ → Text
  event_at_text K k port = word (name_at C.event_names k) ++ codes "at " ++ word (port_name K port)

  abbrev pub on_text : Kind → On → Text
  on_text K (on.Event k port) = event_at_text K k port
  on_text K (on.Init names) = init_text names
  on_text K on.Start = codes "start "
  on_text K on.Stop = codes "stop "
  on_text K (on.Fault slot n) = fault_text slot n
  on_text K (on.Dumped slot) = dumped_text slot

  abbrev pub handler_block : Kind → Handler → Text
  handler_block K h = block_of (statements_text C K h.on max_levels (parameters h.on) h.block)

  abbrev pub handler_text : Kind → Handler → Text
  handler_text K h = codes "on " ++ on_text K h.on ++ codes "as " ++ word h.name ++ off_text h.off ++ handler_block K h

  abbrev pub port_text : PortDecl → Text
  port_text p = side_text p.provided ++ word p.name ++ codes ": " ++ word (name_at C.port_names p.port) ++ end_of_line

  -- a variable is written with its first value
  abbrev pub var_text : VarDecl → Text
  var_text v = codes "var " ++ word v.name ++ codes "= " ++ integer v.first ++ end_of_line

  -- a component type with its arguments
  abbrev pub child_text : Child → Text
  child_text c = word (kind_name C c.kind) ++ arguments integer c.args

  abbrev pub typed_text : Option Child → Text
  typed_text None = []
  typed_text (Some child) = codes ": " ++ child_text child

  abbrev pub slot_text : SlotDecl → Text
  slot_text s = codes "slot " ++ word s.name ++ typed_text s.child ++ end_of_line

  -- a port of the child in a slot, which has the slot's type
  abbrev pub child_port_name : Kind → ℕ → ℕ → Text
  child_port_name K s port = option_map_or (λ child. port_name (kind_of C.declarations child.kind) port) (option_and_then (λ d. d.child) (slice_get K.slots s)) []

  abbrev pub place_text : Kind → ℕ → Option ℕ → Text
  place_text K port None = inside_of (codes "self") (port_name K port)
  place_text K port (Some s) = inside_of (slot_name K s) (child_port_name K s port)

  abbrev pub end_text : Kind → Option Place → Text
  end_text K None = codes "free "
  end_text K (Some p) = place_text K p.port p.slot

  abbrev pub test_text : Test → Text
  test_text t = inside_of (name_at C.event_names t.kind) (attr_name C t.kind t.attr) ++ word (relation t.op) ++ integer t.number

  -- a selector, where there is one
  abbrev pub selector_text : Dir → List Test → Text
  selector_text d [] = []
  selector_text d (t ∷ ts) = word (direction d) ++ codes "when " ++ separated (codes "&& ") test_text (t ∷ ts)

  -- the plus end stands behind `from`, the minus end behind `to`
  abbrev pub channel_text : Kind → ChannelDecl → Text
  channel_text K c =
      codes "channel " ++ word c.name ++ codes ": " ++ word (name_at C.port_names c.port)
      ++ codes "from " ++ end_text K c.plus ++ codes "to " ++ end_text K c.minus
      ++ selector_text Plus c.plus_when ++ selector_text Minus c.minus_when ++ end_of_line

  abbrev pub items_text : Kind → Text
  items_text K = flat_map port_text K.ports ++ flat_map var_text K.vars ++ flat_map slot_text K.slots ++ flat_map (channel_text K) K.channels ++ flat_map (handler_text K) K.handlers

  abbrev pub kind_text : Kind → Text
  kind_text K = codes "component " ++ word K.name ++ block_of (items_text K)

  abbrev pub parent_text : Option ℕ → Text
  parent_text None = []
  parent_text (Some p) = codes ": " ++ word (name_at C.event_names p)

  abbrev pub event_type_text : ℕ → EventRow → Text
  event_type_text k row =
      codes "event " ++ word (name_at C.event_names k) ++ parent_text row.parent
      ++ arguments word (own_names row.own (slice_index_or C.attr_names k [])) ++ end_of_line

  abbrev pub listed_text : Dir → ℕ → Text
  listed_text d k = command (direction d) (name_at C.event_names k)

  abbrev pub port_type_text : ℕ → PortRow → Text
  port_type_text k row = codes "port " ++ word (name_at C.port_names k) ++ block_of (flat_map (listed_text Plus) row.plus ++ flat_map (listed_text Minus) row.minus)

  abbrev pub root_text : Text
  root_text = codes "root " ++ child_text C.declarations.root ++ end_of_line

  abbrev pub canonical_text : Text
  canonical_text =
      header_text C.version
      ++ flat_map (declared_text 4 event_type_text) (enumerate_from 0 C.declarations.events)
      ++ flat_map (declared_text 2 port_type_text) (enumerate_from 0 C.declarations.ports)
      ++ flat_map kind_text C.declarations.kinds
      ++ root_text
