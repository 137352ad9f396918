-- The small steps of a handling.
use Rattle.std.specs.Prelude.{◌≡◌, ℕ, zero, suc, ◌+◌, ℤ, Bool, true, false, not, ◌&&◌, ◌||◌, ◌==◌, nat_le, nat_lt, if◌then◌else◌, List, [], ◌∷◌, ◌++◌, length, map, filter, take, slice_get, slice_index_or, slice_set, Option, Some, None, is_some, is_none, unwrap_or, Result, Ok, Err}
use Rattle.std.specs.List.{list_any, position_from, flat_map}
use Rattle.std.specs.Option.{option_and_then, option_map_or}
use Rattle.std.specs.Str.{bytes_eq}
use Rattle.kom_base.specs.declared.numbers.Dir.{Dir}
use Rattle.kom_base.specs.declared.numbers.Dir.TheVariants.{Plus, Minus}
use Rattle.kom_base.specs.Numbers.{is_plus, agree}
use Rattle.kom_base.specs.Lists.{find_map, holds_number}
use Rattle.kom_lang.specs.declared.kind.Kind.{Kind}
use Rattle.kom_lang.specs.declared.kind.PortDecl.{PortDecl}
use Rattle.kom_lang.specs.declared.kind.Place.{Place}
use Rattle.kom_lang.specs.declared.stmt.Target.{Target}
use Rattle.kom_lang.specs.declared.stmt.Target.TheVariants.{Own, Child}
use Rattle.kom_lang.specs.declared.stmt.Stmt.{Stmt, Stmt-F, out-Stmt}
use Rattle.kom_lang.specs.declared.stmt.Stmt.TheOpen.{Let, SetVar, SetLocal, If, While, Trigger, Answer, Create, CreateFromState, Start, Stop, Destroy, Dump, Hold, Resume, Unplug, Plug, Subscribe, Unsubscribe, Fail, Escalate}
use Rattle.kom_lang.specs.declared.body.Body.{Body}
use Rattle.kom_lang.specs.declared.body.Wire.{Wire}
use Rattle.kom_lang.specs.declared.body.Birth.{Birth}
use Rattle.kom_lang.specs.declared.body.Birth.TheVariants.{Args, State}
use Rattle.kom_lang.specs.declared.body.Effect.{Effect}
use Rattle.kom_lang.specs.declared.body.Effect.TheVariants as effect
use Rattle.kom_lang.specs.Declarations.{Declarations, kind_of, height_of}
use Rattle.kom_lang.specs.Values.{Valuation, value, values, is_zero}

-- what is still to do: a statement, the end of a block that began with so many names in scope, or
-- the begin of a handler with its parameters
pub data Task : Type 0 where
  Do : (s : Stmt) → Task
  EndBlock : (names : ℕ) → Task
  BeginHandler : (parameters : List ℤ) → Task

-- the body and the effects so far, and how many turns the loops of the handling have made
pub record Config : Type 0 where
  pub todo : List Task
  pub scope : List ℤ
  pub body : Body
  pub effects : List Effect
  pub turns : ℕ

-- what a handling reads and never changes: the declarations of the system, the values of the event
-- in hand, and the state that a dumped item carries
pub record Context : Type 0 where
  pub declarations : Declarations
  pub it : List ℤ
  pub state : List ℤ

-- where a handling stands: it goes on, it has ended, or it has ended with a fault
pub data Progress : Type 0 where
  Running : (c : Config) → Progress
  Ended : (body : Body) (effects : List Effect) → Progress
  Faulted : (n : ℕ) → Progress

-- what the expressions of a handling may read at this moment
abbrev pub valuation : Context → Config → Valuation
valuation g c = record { vars = c.body.vars; scope = c.scope; it = g.it }

-- goes on with a value, or ends with the fault
abbrev pub with_value : {A : Type 0} → Result A ℕ → (A → Progress) → Progress
with_value (Ok v) go = go v
with_value (Err n) go = Faulted n

-- ---- changes of a body and of a configuration

-- into a block, whose names leave the scope at its end
abbrev pub enter_block : Config → List Stmt → Config
enter_block c block = record { todo = map Do block ++ EndBlock (length c.scope) ∷ c.todo; scope = c.scope; body = c.body; effects = c.effects; turns = c.turns }

-- a configuration or a body with one field changed

abbrev pub with_todo : Config → List Task → Config
with_todo c todo = record { todo = todo; scope = c.scope; body = c.body; effects = c.effects; turns = c.turns }

abbrev pub with_scope : Config → List ℤ → Config
with_scope c scope = record { todo = c.todo; scope = scope; body = c.body; effects = c.effects; turns = c.turns }

abbrev pub with_body : Config → Body → Config
with_body c body = record { todo = c.todo; scope = c.scope; body = body; effects = c.effects; turns = c.turns }

abbrev pub with_vars : Body → List ℤ → Body
with_vars b vars = record { kind = b.kind; vars = vars; subs = b.subs; slots = b.slots; wires = b.wires; depth = b.depth; active = b.active; initialised = b.initialised }

abbrev pub with_subs : Body → List ℕ → Body
with_subs b subs = record { kind = b.kind; vars = b.vars; subs = subs; slots = b.slots; wires = b.wires; depth = b.depth; active = b.active; initialised = b.initialised }

abbrev pub with_slot : Body → ℕ → Option ℕ → Body
with_slot b slot child = record { kind = b.kind; vars = b.vars; subs = b.subs; slots = slice_set b.slots slot child; wires = b.wires; depth = b.depth; active = b.active; initialised = b.initialised }

abbrev pub with_wire : Body → ℕ → Wire → Body
with_wire b k wire = record { kind = b.kind; vars = b.vars; subs = b.subs; slots = b.slots; wires = slice_set b.wires k wire; depth = b.depth; active = b.active; initialised = b.initialised }

-- a wire for a number that no channel has
abbrev pub no_wire : Wire
no_wire = record { held = true; plus = None; minus = None }

-- the channel with that number, as the component knows it
abbrev pub wire_of : Body → ℕ → Wire
wire_of b k = slice_index_or b.wires k no_wire

-- where that end is plugged; none where it is free
abbrev pub end_of : Wire → Dir → Option Place
end_of w Plus = w.plus
end_of w Minus = w.minus

-- that end plugged elsewhere, or free
abbrev pub with_end : Wire → Dir → Option Place → Wire
with_end w Plus p = record { held = w.held; plus = p; minus = w.minus }
with_end w Minus p = record { held = w.held; plus = w.plus; minus = p }

-- held, or no longer so
abbrev pub with_held : Wire → Bool → Wire
with_held w held = record { held = held; plus = w.plus; minus = w.minus }

-- the component type of the child in a slot
abbrev pub child_in : Body → ℕ → Option ℕ
child_in b slot = option_and_then (λ o. o) (slice_get b.slots slot)

-- ---- effects

-- the number of the first check that fails
abbrev pub first_fault : List (Bool × ℕ) → Option ℕ
first_fault checks = find_map (λ t. if t.0 then Some t.1 else None) checks

-- the fault, if there is one
abbrev pub unless_faulty : Option ℕ → Progress → Progress
unless_faulty None next = next
unless_faulty (Some n) next = Faulted n

-- an effect: fault 4 where the handling has 32 already, then its own checks in order, each a
-- condition that fails with the fault beside it; then the effect is added and the body changed
abbrev pub takes_effect : Config → List (Bool × ℕ) → Effect → Body → Progress
takes_effect c checks e body =
    unless_faulty (first_fault ((nat_le 32 (length c.effects), 4) ∷ checks))
    (Running (record { todo = c.todo; scope = c.scope; body = body; effects = c.effects ++ e ∷ []; turns = c.turns }))

-- the end is plugged at the child in that slot
abbrev pub is_at_slot : ℕ → Option Place → Bool
is_at_slot s place = option_map_or (λ p. option_map_or (λ t. t == s) p.slot false) place false

-- an end of some channel is plugged at the child in the slot
abbrev pub is_plugged_at : Body → ℕ → Bool
is_plugged_at b s = list_any (λ w. is_at_slot s w.plus || is_at_slot s w.minus) b.wires

-- how many variables components of the type have
abbrev pub count_of_vars : Declarations → ℕ → ℕ
count_of_vars S kind = length (kind_of S kind).vars

-- whether an effect passes the fault on
abbrev pub is_escalate : Effect → Bool
is_escalate effect.Escalate = true
is_escalate e = false

-- the number of the port of that name
abbrev pub port_named : Kind → List ℕ → Option ℕ
port_named kind name = position_from (λ p. bytes_eq p.name name) 0 kind.ports

-- the port has the channel's port type, and its outside half has the sign of that end: a provided
-- port takes plus ends outside, a required one minus ends
abbrev pub takes_end : ℕ → Dir → PortDecl → Bool
takes_end type end p = p.port == type && agree p.provided (is_plus end)

-- the port type of a channel of the component
abbrev pub port_of_channel : Declarations → Body → ℕ → ℕ
port_of_channel S b k = option_map_or (λ c. c.port) (slice_get (kind_of S b.kind).channels k) 0

-- the port of that name of the child in the slot, where the channel's end may be plugged there
abbrev pub port_for : Declarations → Body → ℕ → Dir → ℕ → List ℕ → Option ℕ
port_for S b k end s name =
    option_and_then (λ child. option_and_then
    (λ q. option_and_then (λ p. if takes_end (port_of_channel S b k) end p then Some q else None) (slice_get (kind_of S child).ports q))
    (port_named (kind_of S child) name))
    (child_in b s)

-- an end is plugged at a place: fault 8 where the channel is not held, fault 9 where the end is
-- not free, then the checks of the place
abbrev pub plugs : Config → ℕ → Dir → List (Bool × ℕ) → Place → Progress
plugs c k end more place =
    takes_effect c ((not (wire_of c.body k).held, 8) ∷ (is_some (end_of (wire_of c.body k) end), 9) ∷ more)
    (effect.Plug k end place) (with_wire c.body k (with_end (wire_of c.body k) end (Some place)))

-- at a port of the component itself without more checks; at a child's port with fault 6 where the
-- slot is empty and fault 11 where there is no such port
abbrev pub plugs_at : Declarations → Config → ℕ → Dir → Target → Progress
plugs_at S c k end (Own q) = plugs c k end [] (record { slot = None; port = q })
plugs_at S c k end (Child s name) =
    let q = port_for S c.body k end s name in
    plugs c k end ((is_none (child_in c.body s), 6) ∷ (is_none q, 11) ∷ []) (record { slot = Some s; port = unwrap_or q 0 })

-- a component is created in a slot: fault 5 where the slot is taken, fault 12 where a state has
-- another count of values than the type has variables, fault 13 where the tree would be deeper
-- than 16
abbrev pub creates : Declarations → Config → ℕ → ℕ → Bool → Birth → Progress
creates S c s kind is_misshapen birth =
    takes_effect c ((is_some (child_in c.body s), 5) ∷ (is_misshapen, 12) ∷ (nat_lt 16 (c.body.depth + height_of S kind), 13) ∷ [])
    (effect.Create s kind birth) (with_slot c.body s (Some kind))

-- an effect on the child in a slot, which leaves the body as it is: fault 6 where the slot is empty
abbrev pub tells_child : Config → ℕ → Effect → Progress
tells_child c s e = takes_effect c ((is_none (child_in c.body s), 6) ∷ []) e c.body

-- ---- one step

-- into one of the blocks, or past both
abbrev pub branches : Config → Bool → List Stmt → Option (List Stmt) → Progress
branches c true block other = Running (enter_block c block)
branches c false block None = Running c
branches c false block (Some other) = Running (enter_block c other)

-- one turn more of a loop, with fault 3 where it would be turn number 10,001; or past the loop
abbrev pub loops : Config → Bool → Stmt → List Stmt → Progress
loops c false loop block = Running c
loops c true loop block =
    if nat_le 10000 c.turns
    then Faulted 3
    else Running (enter_block (record { todo = Do loop ∷ c.todo; scope = c.scope; body = c.body; effects = c.effects; turns = c.turns + 1 }) block)

-- the step of a statement s, whose one level is the fourth argument; c is what comes after it
abbrev pub statement_step : Context → Config → Stmt → Stmt-F Stmt → Progress
statement_step g c s (Let name e) = with_value (value e (valuation g c)) (λ v. Running (with_scope c (c.scope ++ v ∷ [])))
statement_step g c s (SetVar i e) = with_value (value e (valuation g c)) (λ v. Running (with_body c (with_vars c.body (slice_set c.body.vars i v))))
statement_step g c s (SetLocal i e) = with_value (value e (valuation g c)) (λ v. Running (with_scope c (slice_set c.scope i v)))
statement_step g c s (If e block other) = with_value (value e (valuation g c)) (λ v. branches c (not (is_zero v)) block other)
statement_step g c s (While e block) = with_value (value e (valuation g c)) (λ v. loops c (not (is_zero v)) s block)
statement_step g c s (Trigger kind es port) = with_value (values es (valuation g c)) (λ vs. takes_effect c [] (effect.Trigger port (record { kind = kind; values = vs })) c.body)
statement_step g c s (Answer kind es) = with_value (values es (valuation g c)) (λ vs. takes_effect c [] (effect.Answer (record { kind = kind; values = vs })) c.body)
statement_step g c s (Create slot kind es) = with_value (values es (valuation g c)) (λ vs. creates g.declarations c slot kind false (Args vs))
statement_step g c s (CreateFromState slot kind) = creates g.declarations c slot kind (not (length g.state == count_of_vars g.declarations kind)) (State g.state)
statement_step g c s (Start slot) = tells_child c slot (effect.Start slot)
statement_step g c s (Stop slot) = tells_child c slot (effect.Stop slot)
statement_step g c s (Dump slot) = tells_child c slot (effect.Dump slot)
statement_step g c s (Destroy slot) = takes_effect c ((is_none (child_in c.body slot), 6) ∷ (is_plugged_at c.body slot, 7) ∷ []) (effect.Destroy slot) (with_slot c.body slot None)
statement_step g c s (Hold k) = takes_effect c [] (effect.Hold k) (with_wire c.body k (with_held (wire_of c.body k) true))
statement_step g c s (Resume k) =
    let w = wire_of c.body k in
    takes_effect c ((is_none w.plus || is_none w.minus, 10) ∷ []) (effect.Resume k) (with_wire c.body k (with_held w false))
statement_step g c s (Unplug k end) =
    let w = wire_of c.body k in
    takes_effect c ((not w.held, 8) ∷ (is_none (end_of w end), 10) ∷ []) (effect.Unplug k end) (with_wire c.body k (with_end w end None))
statement_step g c s (Plug k end target) = plugs_at g.declarations c k end target
statement_step g c s (Subscribe h) = Running (with_body c (with_subs c.body (if holds_number c.body.subs h then c.body.subs else c.body.subs ++ h ∷ [])))
statement_step g c s (Unsubscribe h) = Running (with_body c (with_subs c.body (filter (λ x. not (x == h)) c.body.subs)))
statement_step g c s (Fail n) = Faulted (100 + n)
statement_step g c s Escalate = if list_any is_escalate c.effects then Running c else takes_effect c [] effect.Escalate c.body

-- the step of a task
abbrev pub task_step : Context → Config → Task → Progress
task_step g c (Do s) = statement_step g c s (out-Stmt s)
task_step g c (EndBlock names) = Running (with_scope c (take names c.scope))
task_step g c (BeginHandler parameters) = Running (with_scope c parameters)

-- the step of a configuration with these tasks: the first of them, or the end
abbrev pub config_step : Context → Config → List Task → Progress
config_step g c [] = Ended c.body c.effects
config_step g c (t ∷ ts) = task_step g (with_todo c ts) t

-- one step; what has ended stays so
abbrev pub step : Context → Progress → Progress
step g (Running c) = config_step g c c.todo
step g (Ended body effects) = Ended body effects
step g (Faulted n) = Faulted n

-- n steps
abbrev pub after : ℕ → Context → Progress → Progress
after zero g x = x
after (suc n) g x = after n g (step g x)

-- the configuration in which the handlers with these blocks run one after another, each with the
-- same parameters and a scope of its own
abbrev pub start_config : List (List Stmt) → List ℤ → Body → Config
start_config blocks parameters body = record { todo = flat_map (λ b. BeginHandler parameters ∷ map Do b) blocks; scope = []; body = body; effects = []; turns = 0 }

-- some number of steps leads from the configuration to that end
abbrev pub Runs : Context → Config → Progress → Type 0
Runs g c end = (n : ℕ) × (after n g (Running c) ≡ end)
