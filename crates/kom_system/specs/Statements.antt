-- Whether the numbers in a statement name what they should, and the statements of a handler.
use Rattle.std.specs.Prelude.{◌≡◌, ℕ, Bool, true, false, not, ◌&&◌, ◌==◌, nat_lt, nat_le, List, length, slice_get, Option, Some, Contains}
use Rattle.std.specs.Option.{option_map_or}
use Rattle.kom_base.specs.declared.numbers.Dir.{Dir}
use Rattle.kom_base.specs.declared.numbers.Dir.TheVariants.{Plus, Minus}
use Rattle.kom_events.specs.Kin.{attributes}
use Rattle.kom_events.specs.Ports.{passes}
use Rattle.kom_lang.specs.declared.expr.Expr.{Expr}
use Rattle.kom_lang.specs.declared.kind.Kind.{Kind}
use Rattle.kom_lang.specs.declared.kind.PortDecl.{PortDecl}
use Rattle.kom_lang.specs.declared.stmt.Stmt.{Stmt, Stmt-F, out-Stmt}
use Rattle.kom_lang.specs.declared.stmt.Stmt.TheVariants as stmt
use Rattle.kom_lang.specs.declared.stmt.Stmt.TheOpen.{Let, SetVar, SetLocal, If, While, Trigger, Answer, Create, CreateFromState, Start, Stop, Destroy, Dump, Hold, Resume, Unplug, Plug, Subscribe, Unsubscribe, Fail, Escalate}
use Rattle.kom_lang.specs.declared.stmt.Target.{Target}
use Rattle.kom_lang.specs.declared.stmt.Target.TheVariants.{Own, Child}
use Rattle.kom_lang.specs.declared.stmt.On.{On}
use Rattle.kom_lang.specs.declared.stmt.On.TheVariants as on
use Rattle.kom_lang.specs.Declarations.{Declarations, kind_of, is_init, is_fault}
use Rattle.kom_system.specs.Fitting.{arity, takes_at}

-- the statement stands in the block, or in a block inside it
pub data Within (s : Stmt) : List Stmt → Type 0 where
  Here : (block : List Stmt) → Contains block s → Within s block
  InIf : (block : List Stmt) (test : Expr) (then : List Stmt) (other : Option (List Stmt)) → Contains block (stmt.If test then other) → Within s then → Within s block
  InElse : (block : List Stmt) (test : Expr) (then : List Stmt) (other : List Stmt) → Contains block (stmt.If test then (Some other)) → Within s other → Within s block
  InWhile : (block : List Stmt) (test : Expr) (inner : List Stmt) → Contains block (stmt.While test inner) → Within s inner → Within s block

-- the direction that leads out of a port
abbrev pub outwards : Bool → Dir
outwards true = Plus
outwards false = Minus

-- events of the type may leave by the port, and have so many attributes
abbrev pub event_leaves : Declarations → ℕ → ℕ → PortDecl → Bool
event_leaves S kind count p = passes S.events S.ports p.port (outwards p.provided) kind && count == attributes S.events kind

-- an answer leaves by the port of its handler
abbrev pub answer_fits : Declarations → Kind → ℕ → ℕ → On → Bool
answer_fits S kind k count (on.Event e port) = option_map_or (event_leaves S k count) (slice_get kind.ports port) false
answer_fits S kind k count o = false

abbrev pub is_dumped : On → Bool
is_dumped (on.Dumped slot) = true
is_dumped o = false

abbrev pub target_fits : Kind → ℕ → Dir → Target → Bool
target_fits kind type end (Own port) = option_map_or (takes_at type end false) (slice_get kind.ports port) false
target_fits kind type end (Child slot port) = nat_lt slot (length kind.slots)

abbrev pub subscribes_to : Kind → ℕ → Bool
subscribes_to kind h = option_map_or (λ x. not (is_init x.on)) (slice_get kind.handlers h) false

-- one level of a statement in a handler of a component type; the third argument is what the handler handles
abbrev pub statement_fits : Declarations → Kind → On → Stmt-F Stmt → Bool
statement_fits S kind o (Let name e) = true
statement_fits S kind o (SetVar i e) = nat_lt i (length kind.vars)
statement_fits S kind o (SetLocal i e) = true
statement_fits S kind o (If e block other) = true
statement_fits S kind o (While e block) = true
statement_fits S kind o (Trigger k es port) = option_map_or (event_leaves S k (length es)) (slice_get kind.ports port) false
statement_fits S kind o (Answer k es) = answer_fits S kind k (length es) o
statement_fits S kind o (Create slot k es) = nat_lt slot (length kind.slots) && (nat_lt k (length S.kinds) && length es == arity (kind_of S k))
statement_fits S kind o (CreateFromState slot k) = nat_lt slot (length kind.slots) && (nat_lt k (length S.kinds) && is_dumped o)
statement_fits S kind o (Start slot) = nat_lt slot (length kind.slots)
statement_fits S kind o (Stop slot) = nat_lt slot (length kind.slots)
statement_fits S kind o (Destroy slot) = nat_lt slot (length kind.slots)
statement_fits S kind o (Dump slot) = nat_lt slot (length kind.slots)
statement_fits S kind o (Hold k) = nat_lt k (length kind.channels)
statement_fits S kind o (Resume k) = nat_lt k (length kind.channels)
statement_fits S kind o (Unplug k end) = nat_lt k (length kind.channels)
statement_fits S kind o (Plug k end target) = option_map_or (λ c. target_fits kind c.port end target) (slice_get kind.channels k) false
statement_fits S kind o (Subscribe h) = subscribes_to kind h
statement_fits S kind o (Unsubscribe h) = subscribes_to kind h
statement_fits S kind o (Fail n) = nat_le n 899
statement_fits S kind o Escalate = is_fault o

abbrev pub StatementFits : Declarations → Kind → On → Stmt → Type 0
StatementFits S kind o s = statement_fits S kind o (out-Stmt s) ≡ true
