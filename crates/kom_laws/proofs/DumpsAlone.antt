-- In a well-formed system a handling creates a component from a state only where it handles a Dumped.
use Rattle.std.proofs.Common.{◌≡◌, ℕ, ℤ, zero, suc, ◌+◌, ◌<◌, Bool, true, false, cond, not, ◌&&◌, ◌||◌, refl, sym, ap, ◌∙◌, subst, List, [], ◌∷◌, ◌++◌, length, filter, Option, Some, None, Result, Ok, Err, ◌⊎◌, inl, inr, arith, if◌then◌else◌}
use Rattle.std.specs.Prelude.{slice_index_or, nat_le, nat_lt, map, is_none, is_some, slice_get, slice_set, unwrap_or, Contains}
use Rattle.std.specs.List.{cons_option, list_any, flat_map, filter_map, enumerate_from}
use Rattle.std.specs.Option.{option_map, option_map_or}
use Rattle.kom_base.specs.declared.numbers.Dir.{Dir}
use Rattle.kom_base.specs.declared.numbers.Side.TheVariants.{Outside, Inside}
use Rattle.kom_lang.specs.Declarations.{Declarations, height_of, kind_of, handler_of, is_init}
use Rattle.kom_lang.specs.Values.{value, values, is_zero}
use Rattle.kom_lang.specs.declared.kind.Place.{Place}
use Rattle.kom_lang.specs.declared.expr.Expr.{Expr}
use Rattle.kom_lang.specs.declared.stmt.Handler.{Handler}
use Rattle.kom_lang.specs.declared.stmt.On.{On}
use Rattle.kom_lang.specs.declared.stmt.On.TheVariants as on
use Rattle.kom_lang.specs.declared.stmt.Stmt.{Stmt, Stmt-F, out-Stmt, roll-Stmt, roll-out-Stmt}
use Rattle.kom_lang.specs.declared.stmt.Stmt.TheVariants as stmt
use Rattle.kom_lang.specs.declared.stmt.Stmt.TheOpen.{Let, SetVar, SetLocal, If, While, Trigger, Answer, Create, CreateFromState, Start, Stop, Destroy, Dump, Hold, Resume, Unplug, Plug, Subscribe, Unsubscribe, Fail, Escalate}
use Rattle.kom_lang.specs.declared.stmt.Target.{Target}
use Rattle.kom_lang.specs.declared.stmt.Target.TheVariants.{Own, Child}
use Rattle.kom_lang.specs.declared.body.Body.{Body}
use Rattle.kom_lang.specs.declared.body.Birth.TheVariants.{Args, State}
use Rattle.kom_lang.specs.declared.body.Effect.{Effect}
use Rattle.kom_lang.specs.declared.body.Effect.TheVariants as effect
use Rattle.kom_lang.specs.Steps.{Task, Do, EndBlock, BeginHandler, Config, Context, Progress, Running, Ended, Faulted, with_value, with_todo, with_scope, with_body, with_vars, with_slot, with_wire, with_held, with_end, wire_of, end_of, child_in, is_plugged_at, port_for, creates, valuation, unless_faulty, first_fault, takes_effect, is_escalate, branches, loops, plugs_at, statement_step, task_step, config_step, step, after}
use Rattle.kom_lang.specs.declared.kind.Kind.{Kind}
use Rattle.kom_lang.specs.Declarations.{numbers_of, no_kind}
use Rattle.kom_system.specs.Statements.{Within, Here, InIf, InElse, InWhile, StatementFits, is_dumped}
use Rattle.kom_system.specs.WellFormed.{IsDeclared, KindFits}
use Rattle.kom_record.specs.declared.item.Control.TheVariants.{Init, Start, Stop, Dump, Fault, Dumped}
use Rattle.kom_record.specs.declared.item.Item.{Item}
use Rattle.kom_record.specs.declared.item.Item.TheVariants.{Control, Arrival}
use Rattle.kom_record.specs.declared.entry.Outcome.TheVariants as outcome
use Rattle.kom_record.specs.Reaction.{Reacts, blocks, context, first_config, handlers, handles, parameters, prepared}
use Rattle.kom_laws.specs.Laws.{CreatesFromDumpsAlone, HaveState}
use Rattle.kom_laws.proofs.EffectLaws.{bounded}
use Rattle.kom_laws.proofs.Members.{IsIn, here, there, Some-injective}
use Rattle.kom_laws.proofs.ListFacts.{numbered, got_in}

-- ---- members, by place and by path

pub in_contains : {X : Type 0} (x : X) (xs : List X) → IsIn x xs → Contains xs x
in_contains x [] h = elim h [ ]
in_contains x (x' ∷ xs) here = (0, omega arith, refl)
in_contains x (y ∷ xs) (there h) = let r = in_contains x xs h in (suc r.0, omega (arith, r.1), r.2)

at : {X : Type 0} (x : X) (xs : List X) (k : ℕ) → k < length xs → slice_index_or xs k x ≡ x → IsIn x xs
at x [] k h e = absurd (omega (arith, h))
at x (y ∷ xs) zero h e = subst (λ z. IsIn z (y ∷ xs)) e here
at x (y ∷ xs) (suc k) h e = there (at x xs k (omega (arith, h)) e)

pub contains_in : {X : Type 0} (x : X) (xs : List X) → Contains xs x → IsIn x xs
contains_in x xs c = at x xs c.0 c.1 c.2

-- ---- statements that create nothing from a state

-- a statement as it is read one level
pub rolled : (s : Stmt) (f : Stmt-F Stmt) → out-Stmt s ≡ f → s ≡ roll-Stmt f
rolled s f e = sym (roll-out-Stmt s) ∙ ap roll-Stmt e

-- neither the statement nor one inside it creates from a state
abbrev IsClean : Stmt → Type 0
IsClean s = (slot kind : ℕ) → Within (stmt.CreateFromState slot kind) (s ∷ []) → ⊥

abbrev IsCleanTask : Task → Type 0
IsCleanTask (Do s) = IsClean s
IsCleanTask (EndBlock n) = Unit {0}
IsCleanTask (BeginHandler ps) = Unit {0}

abbrev AreClean : List Task → Type 0
AreClean [] = Unit {0}
AreClean (t ∷ ts) = IsCleanTask t × AreClean ts

clean_append : (xs ys : List Task) → AreClean xs → AreClean ys → AreClean (xs ++ ys)
clean_append [] ys h k = k
clean_append (x ∷ xs) ys h k = (h.0, clean_append xs ys h.1 k)

-- what stands within some statements stands within more
within_more : (x : Stmt) (xs ys : List Stmt) → ((y : Stmt) → Contains xs y → Contains ys y) → Within x xs → Within x ys
within_more x xs ys m (Here b c) = Here ys (m x c)
within_more x xs ys m (InIf b test block other c w) = InIf ys test block other (m _ c) w
within_more x xs ys m (InElse b test block other c w) = InElse ys test block other (m _ c) w
within_more x xs ys m (InWhile b test inner c w) = InWhile ys test inner (m _ c) w

first_in : (y s : Stmt) (part : List Stmt) → IsIn y (s ∷ []) → IsIn y (s ∷ part)
first_in y y' part here = here
first_in y s part (there i) = elim i [ ]

-- the statements of a clean block
clean_part : (block part : List Stmt) → ((y : Stmt) → IsIn y part → IsIn y block) → ((slot kind : ℕ) → Within (stmt.CreateFromState slot kind) block → ⊥) → AreClean (map Do part)
clean_part block [] m h = tt
clean_part block (s ∷ part) m h = (
  (λ slot kind w. h slot kind (within_more _ (s ∷ []) block (λ y c. in_contains y block (m y (first_in y s part (contains_in y (s ∷ []) c)))) w)),
  clean_part block part (λ y i. m y (there i)) h,
)

clean_block : (block : List Stmt) → ((slot kind : ℕ) → Within (stmt.CreateFromState slot kind) block → ⊥) → AreClean (map Do block)
clean_block block h = clean_part block block (λ y i. i) h

if_is : (e : Expr) (block : List Stmt) (other : Option (List Stmt)) → roll-Stmt (If e block other) ≡ stmt.If e block other
unfolding roll-Stmt denote.Hole.Carrier.roll
if_is e block other = refl

while_is : (e : Expr) (block : List Stmt) → roll-Stmt (While e block) ≡ stmt.While e block
unfolding roll-Stmt denote.Hole.Carrier.roll
while_is e block = refl

create_is : (slot kind : ℕ) → roll-Stmt (CreateFromState slot kind) ≡ stmt.CreateFromState slot kind
unfolding roll-Stmt denote.Hole.Carrier.roll
create_is slot kind = refl

-- ---- effects that create nothing from a state

abbrev IsStateless : Effect → Type 0
IsStateless (effect.Create slot kind (State v)) = ⊥
IsStateless e = Unit {0}

abbrev AreStateless : List Effect → Type 0
AreStateless [] = Unit {0}
AreStateless (e ∷ es) = IsStateless e × AreStateless es

stateless_more : (es : List Effect) (e : Effect) → AreStateless es → IsStateless e → AreStateless (es ++ e ∷ [])
stateless_more [] e h k = (k, tt)
stateless_more (x ∷ es) e h k = (h.0, stateless_more es e h.1 k)

stateless_in : (es : List Effect) (slot kind : ℕ) (v : List ℤ) → AreStateless es → IsIn (effect.Create slot kind (State v)) es → ⊥
stateless_in [] slot kind v h i = elim i [ ]
stateless_in (x ∷ es) slot kind v h here = h.0
stateless_in (x ∷ es) slot kind v h (there i) = stateless_in es slot kind v h.1 i

-- ---- the steps

-- the blocks inside a clean statement
if_block : (s : Stmt) (e : Expr) (block : List Stmt) (other : Option (List Stmt)) → out-Stmt s ≡ If e block other → IsClean s → AreClean (map Do block)
if_block s e block other q h = clean_block block
    (λ slot kind w. h slot kind (InIf (s ∷ []) e block other (subst (λ z. Contains (s ∷ []) z) (rolled s (If e block other) q ∙ if_is e block other) (in_contains s (s ∷ []) here)) w))

else_block : (s : Stmt) (e : Expr) (block other : List Stmt) → out-Stmt s ≡ If e block (Some other) → IsClean s → AreClean (map Do other)
else_block s e block other q h = clean_block other
    (λ slot kind w. h slot kind (InElse (s ∷ []) e block other (subst (λ z. Contains (s ∷ []) z) (rolled s (If e block (Some other)) q ∙ if_is e block (Some other)) (in_contains s (s ∷ []) here)) w))

while_block : (s : Stmt) (e : Expr) (block : List Stmt) → out-Stmt s ≡ While e block → IsClean s → AreClean (map Do block)
while_block s e block q h = clean_block block
    (λ slot kind w. h slot kind (InWhile (s ∷ []) e block (subst (λ z. Contains (s ∷ []) z) (rolled s (While e block) q ∙ while_is e block) (in_contains s (s ∷ []) here)) w))

no_create : (s : Stmt) (slot kind : ℕ) → out-Stmt s ≡ CreateFromState slot kind → IsClean s → ⊥
no_create s slot kind q h = h slot kind (Here (s ∷ []) (subst (λ z. Contains (s ∷ []) z) (rolled s (CreateFromState slot kind) q ∙ create_is slot kind) (in_contains s (s ∷ []) here)))

record IsQuiet (c : Config) : Type 0 where
  todo : AreClean c.todo
  effects : AreStateless c.effects

abbrev IsGood : Progress → Type 0
IsGood (Running c) = IsQuiet c
IsGood (Ended body es) = AreStateless es
IsGood (Faulted n) = Unit {0}

with_value_good : (r : Result ℤ ℕ) (go : ℤ → Progress) → ((v : ℤ) → IsGood (go v)) → IsGood (with_value r go)
with_value_good (Ok v) go h = h v
with_value_good (Err n) go h = tt

with_values_good : (r : Result (List ℤ) ℕ) (go : List ℤ → Progress) → ((v : List ℤ) → IsGood (go v)) → IsGood (with_value r go)
with_values_good (Ok v) go h = h v
with_values_good (Err n) go h = tt

unless_good : (o : Option ℕ) (p : Progress) → IsGood p → IsGood (unless_faulty o p)
unless_good None p h = h
unless_good (Some n) p h = tt

takes : (c : Config) (checks : List (Bool × ℕ)) (e : Effect) (body : Body) → IsStateless e → IsQuiet c → IsGood (takes_effect c checks e body)
takes c checks e body k h = unless_good (first_fault ((nat_le 32 (length c.effects), 4) ∷ checks)) _ (record { todo = h.todo; effects = stateless_more c.effects e h.effects k })

entered_good : (c : Config) (block : List Stmt) → AreClean (map Do block) → IsQuiet c → AreClean (map Do block ++ EndBlock (length c.scope) ∷ c.todo)
entered_good c block k h = clean_append (map Do block) (EndBlock (length c.scope) ∷ c.todo) k (tt, h.todo)

branches_good : (c : Config) (b : Bool) (s : Stmt) (e : Expr) (block : List Stmt) (other : Option (List Stmt)) → out-Stmt s ≡ If e block other → IsClean s → IsQuiet c → IsGood (branches c b block other)
branches_good c true s e block other q k h = record { todo = entered_good c block (if_block s e block other q k) h; effects = h.effects }
branches_good c false s e block None q k h = h
branches_good c false s e block (Some other) q k h = record { todo = entered_good c other (else_block s e block other q k) h; effects = h.effects }

turn_good : (b : Bool) (c : Config) → IsQuiet c → IsGood (if b then Faulted 3 else Running c)
turn_good true c h = tt
turn_good false c h = h

loops_good : (c : Config) (b : Bool) (s : Stmt) (e : Expr) (block : List Stmt) → out-Stmt s ≡ While e block → IsClean s → IsQuiet c → IsGood (loops c b s block)
loops_good c false s e block q k h = h
loops_good c true s e block q k h =
    turn_good (nat_le 10000 c.turns) _
    (record { todo = clean_append (map Do block) (EndBlock (length c.scope) ∷ Do s ∷ c.todo) (while_block s e block q k) (tt, (k, h.todo)); effects = h.effects })

escalates_good : (b : Bool) (c : Config) → IsQuiet c → IsGood (if b then Running c else takes_effect c [] effect.Escalate c.body)
escalates_good true c h = h
escalates_good false c h = takes c [] effect.Escalate c.body tt h

module _ (g : Context) where
  plugs_good : (c : Config) (x : ℕ) (end : Dir) (target : Target) → IsQuiet c → IsGood (plugs_at g.declarations c x end target)
  plugs_good c x end (Own q) h =
      takes c ((not (wire_of c.body x).held, 8) ∷ (is_some (end_of (wire_of c.body x) end), 9) ∷ []) (effect.Plug x end (record { slot = None; port = q }))
      (with_wire c.body x (with_end (wire_of c.body x) end (Some (record { slot = None; port = q })))) tt h
  plugs_good c x end (Child s name) h =
      let q = port_for g.declarations c.body x end s name in
      let p : Place = record { slot = Some s; port = unwrap_or q 0 } in
      takes c ((not (wire_of c.body x).held, 8) ∷ (is_some (end_of (wire_of c.body x) end), 9) ∷ (is_none (child_in c.body s), 6) ∷ (is_none q, 11) ∷ []) (effect.Plug x end p)
      (with_wire c.body x (with_end (wire_of c.body x) end (Some p))) tt h

  statement_good : (c : Config) (s : Stmt) (f : Stmt-F Stmt) → out-Stmt s ≡ f → IsClean s → IsQuiet c → IsGood (statement_step g c s f)
  statement_good c s (Let name e) q k h = with_value_good (value e (valuation g c)) (λ v. Running (with_scope c (c.scope ++ v ∷ []))) (λ v. record { todo = h.todo; effects = h.effects })
  statement_good c s (SetVar i e) q k h = with_value_good (value e (valuation g c)) (λ v. Running (with_body c (with_vars c.body (slice_set c.body.vars i v)))) (λ v. record { todo = h.todo; effects = h.effects })
  statement_good c s (SetLocal i e) q k h = with_value_good (value e (valuation g c)) (λ v. Running (with_scope c (slice_set c.scope i v))) (λ v. record { todo = h.todo; effects = h.effects })
  statement_good c s (If e block other) q k h = with_value_good (value e (valuation g c)) (λ v. branches c (not (is_zero v)) block other) (λ v. branches_good c (not (is_zero v)) s e block other q k h)
  statement_good c s (While e block) q k h = with_value_good (value e (valuation g c)) (λ v. loops c (not (is_zero v)) s block) (λ v. loops_good c (not (is_zero v)) s e block q k h)
  statement_good c s (Trigger kind es port) q k h =
      with_values_good (values es (valuation g c)) (λ vs. takes_effect c [] (effect.Trigger port (record { kind = kind; values = vs })) c.body)
      (λ vs. takes c [] (effect.Trigger port (record { kind = kind; values = vs })) c.body tt h)
  statement_good c s (Answer kind es) q k h =
      with_values_good (values es (valuation g c)) (λ vs. takes_effect c [] (effect.Answer (record { kind = kind; values = vs })) c.body)
      (λ vs. takes c [] (effect.Answer (record { kind = kind; values = vs })) c.body tt h)
  statement_good c s (Create slot kind es) q k h =
      with_values_good (values es (valuation g c)) (λ vs. creates g.declarations c slot kind false (Args vs)) (λ vs. takes c ((is_some (child_in c.body slot), 5) ∷ (false, 12) ∷ (nat_lt 16 (c.body.depth + height_of g.declarations kind), 13) ∷ []) (effect.Create slot kind (Args vs)) (with_slot c.body slot (Some kind)) tt h)
  statement_good c s (CreateFromState slot kind) q k h = absurd (no_create s slot kind q k)
  statement_good c s (Start slot) q k h = takes c ((is_none (child_in c.body slot), 6) ∷ []) (effect.Start slot) c.body tt h
  statement_good c s (Stop slot) q k h = takes c ((is_none (child_in c.body slot), 6) ∷ []) (effect.Stop slot) c.body tt h
  statement_good c s (Dump slot) q k h = takes c ((is_none (child_in c.body slot), 6) ∷ []) (effect.Dump slot) c.body tt h
  statement_good c s (Destroy slot) q k h = takes c ((is_none (child_in c.body slot), 6) ∷ (is_plugged_at c.body slot, 7) ∷ []) (effect.Destroy slot) (with_slot c.body slot None) tt h
  statement_good c s (Hold x) q k h = takes c [] (effect.Hold x) (with_wire c.body x (with_held (wire_of c.body x) true)) tt h
  statement_good c s (Resume x) q k h = let w = wire_of c.body x in takes c ((is_none w.plus || is_none w.minus, 10) ∷ []) (effect.Resume x) (with_wire c.body x (with_held w false)) tt h
  statement_good c s (Unplug x end) q k h = let w = wire_of c.body x in takes c ((not w.held, 8) ∷ (is_none (end_of w end), 10) ∷ []) (effect.Unplug x end) (with_wire c.body x (with_end w end None)) tt h
  statement_good c s (Plug x end target) q k h = plugs_good c x end target h
  statement_good c s (Subscribe x) q k h = record { todo = h.todo; effects = h.effects }
  statement_good c s (Unsubscribe x) q k h = record { todo = h.todo; effects = h.effects }
  statement_good c s (Fail n) q k h = tt
  statement_good c s Escalate q k h = escalates_good (list_any is_escalate c.effects) c h

  task_good : (c : Config) (t : Task) → IsCleanTask t → IsQuiet c → IsGood (task_step g c t)
  task_good c (Do s) k h = statement_good c s (out-Stmt s) refl k h
  task_good c (EndBlock n) k h = record { todo = h.todo; effects = h.effects }
  task_good c (BeginHandler ps) k h = record { todo = h.todo; effects = h.effects }

  config_good : (c : Config) (todo : List Task) → AreClean todo → AreStateless c.effects → IsGood (config_step g c todo)
  config_good c [] k h = h
  config_good c (t ∷ ts) k h = task_good (with_todo c ts) t k.0 (record { todo = k.1; effects = h })

  step_good : (p : Progress) → IsGood p → IsGood (step g p)
  step_good (Running c) h = config_good c c.todo h.todo h.effects
  step_good (Ended body es) h = h
  step_good (Faulted n) h = h

  after_good : (n : ℕ) (p : Progress) → IsGood p → IsGood (after n g p)
  after_good zero p h = h
  after_good (suc n) p h = after_good n (step g p) (step_good p h)

-- ---- the blocks that run

-- what a filter keeps passes its test
kept_by_at : {X : Type 0} (test : X → Bool) (y x : X) (xs : List X) (b : Bool) → test y ≡ b → (IsIn x (filter test xs) → test x ≡ true) → IsIn x (cond b (y ∷ filter test xs) (filter test xs)) → test x ≡ true
kept_by_at test x' x xs true e rest here = e
kept_by_at test y x xs true e rest (there h) = rest h
kept_by_at test y x xs false e rest h = rest h

kept_by : {X : Type 0} (test : X → Bool) (x : X) (xs : List X) → IsIn x (filter test xs) → test x ≡ true
kept_by test x [] h = elim h [ ]
kept_by test x (y ∷ xs) h = kept_by_at test y x xs (test y) refl (kept_by test x xs) h

-- what `filter_map` gives of a member
made_from_or : {X Y : Type 0} (f : X → Option Y) (x : X) (xs : List X) (y : Y) (o : Option Y) → f x ≡ o → (IsIn y (filter_map f xs) → (z : X) × IsIn z xs × (f z ≡ Some y)) → IsIn y (cons_option o (filter_map f xs)) → (z : X) × IsIn z (x ∷ xs) × (f z ≡ Some y)
made_from_or f x xs y None e rest h = let r = rest h in (r.0, there r.1, r.2)
made_from_or f x xs y (Some z) e rest here = (x, here, e)
made_from_or f x xs y (Some z) e rest (there h) = let r = rest h in (r.0, there r.1, r.2)

made_from : {X Y : Type 0} (f : X → Option Y) (xs : List X) (y : Y) → IsIn y (filter_map f xs) → (x : X) × IsIn x xs × (f x ≡ Some y)
made_from f [] y h = elim h [ ]
made_from f (x ∷ xs) y h = made_from_or f x xs y (f x) refl (made_from f xs y) h

-- the handlers that run handle what the item is
abbrev IsRun : Declarations → Item → Handler → Type 0
IsRun S item x = (handles S item x.on ≡ true) ⊎ (is_init x.on ≡ true)

subscribed : (S : Declarations) (item : Item) (x : Handler) (o : Option Handler) → o ≡ Some x → option_map_or (λ x. handles S item x.on) o false ≡ true → handles S item x.on ≡ true
subscribed S item x None e t = absurd cc
subscribed S item x (Some y) e t = subst (λ y. handles S item y.on ≡ true) (Some-injective e) t

init_at : (b : Bool) (p : ℕ × Handler) (h : ℕ) → is_init p.1.on ≡ b → (if b then Some p.0 else None) ≡ Some h → (p.0 ≡ h) × (is_init p.1.on ≡ true)
init_at true p h q e = (Some-injective e, q)
init_at false p h q e = absurd cc

same_handler : (hs : List Handler) (n m k : ℕ) (x y : Handler) → slice_get hs n ≡ Some x → slice_get hs m ≡ Some y → m ≡ k → k ≡ n → is_init y.on ≡ true → is_init x.on ≡ true
same_handler hs n m k x y a b e f t =
    let same : Some y ≡ Some x = sym b ∙ ap (slice_get hs) (e ∙ f) ∙ a in
    subst (λ z. is_init z.on ≡ true) (Some-injective same) t

first_of : (hs : List Handler) (h : ℕ) (x : Handler) → slice_get hs h ≡ Some x → IsIn h (numbers_of (λ h. is_init h.on) hs) → is_init x.on ≡ true
first_of hs h x e i =
    let r = made_from (λ p. if is_init p.1.on then Some p.0 else None) (enumerate_from 0 hs) h i in
    let n = numbered 0 hs r.0 r.1 in
    let t = init_at (is_init r.0.1.on) r.0 h refl r.2 in
    same_handler hs h n.0 r.0.0 x r.0.1 e n.2 (omega (arith, n.1)) t.0 t.1

runs : (S : Declarations) (b : Body) (item : Item) (h : ℕ) (x : Handler) → handler_of (kind_of S b.kind) h ≡ Some x → IsIn h (handlers S b item) → IsRun S item x
unfolding handlers
runs S b (Control (Init vs)) h x e i = inr (first_of (kind_of S b.kind).handlers h x e i)
runs S b (Control Start) h x e i = inl (subscribed S (Control Start) x (handler_of (kind_of S b.kind) h) e (kept_by (λ h. option_map_or (λ x. handles S (Control Start) x.on) (handler_of (kind_of S b.kind) h) false) h b.subs i))
runs S b (Control Stop) h x e i = inl (subscribed S (Control Stop) x (handler_of (kind_of S b.kind) h) e (kept_by (λ h. option_map_or (λ x. handles S (Control Stop) x.on) (handler_of (kind_of S b.kind) h) false) h b.subs i))
runs S b (Control Dump) h x e i = inl (subscribed S (Control Dump) x (handler_of (kind_of S b.kind) h) e (kept_by (λ h. option_map_or (λ x. handles S (Control Dump) x.on) (handler_of (kind_of S b.kind) h) false) h b.subs i))
runs S b (Control (Fault slot n)) h x e i = inl (subscribed S (Control (Fault slot n)) x (handler_of (kind_of S b.kind) h) e (kept_by (λ h. option_map_or (λ x. handles S (Control (Fault slot n)) x.on) (handler_of (kind_of S b.kind) h) false) h b.subs i))
runs S b (Control (Dumped slot vs)) h x e i = inl (subscribed S (Control (Dumped slot vs)) x (handler_of (kind_of S b.kind) h) e (kept_by (λ h. option_map_or (λ x. handles S (Control (Dumped slot vs)) x.on) (handler_of (kind_of S b.kind) h) false) h b.subs i))
runs S b (Arrival c d n port side event back) h x e i =
    inl (subscribed S (Arrival c d n port side event back) x (handler_of (kind_of S b.kind) h) e (kept_by (λ h. option_map_or (λ x. handles S (Arrival c d n port side event back) x.on) (handler_of (kind_of S b.kind) h) false) h b.subs i))

-- an item that runs no handler of Dumped
abbrev IsOther : Declarations → Item → Type 0
IsOther S item = (name : List ℕ) → handles S item (on.Dumped name) ≡ false

not_dumped : (S : Declarations) (item : Item) (o : On) → IsOther S item → (handles S item o ≡ true) ⊎ (is_init o ≡ true) → is_dumped o ≡ false
not_dumped S item (on.Dumped slot) k (inl h) = let f : true ≡ false = sym h ∙ k slot in absurd cc
not_dumped S item (on.Dumped slot) k (inr h) = absurd cc
not_dumped S item (on.Init names) k h = refl
not_dumped S item on.Start k h = refl
not_dumped S item on.Stop k h = refl
not_dumped S item (on.Fault a b) k h = refl
not_dumped S item (on.Event e port) k h = refl

-- a statement that creates from a state stands in handlers of Dumped alone
last_true : (a b c : Bool) → (a && (b && c)) ≡ true → c ≡ true
last_true true true c h = h
last_true true false c h = absurd cc
last_true false b c h = absurd cc

out_create : (S : Declarations) (kind : Kind) (o : On) (slot k : ℕ) → StatementFits S kind o (stmt.CreateFromState slot k) → is_dumped o ≡ true
unfolding out-Stmt roll-Stmt denote.Hole.Carrier.roll denote.Hole.Carrier.out
out_create S kind o slot k h = last_true (nat_lt slot (length kind.slots)) (nat_lt k (length S.kinds)) (is_dumped o) h

block_clean : (S : Declarations) (k : ℕ) (x : Handler) → KindFits S k → IsIn x (kind_of S k).handlers → is_dumped x.on ≡ false → (slot kind : ℕ) → Within (stmt.CreateFromState slot kind) x.block → ⊥
block_clean S k x f i d slot kind w =
    let t = out_create S (kind_of S k) x.on slot kind (f.statements x (stmt.CreateFromState slot kind) (in_contains x (kind_of S k).handlers i) w) in
    let e : true ≡ false = sym t ∙ d in absurd cc

beyond : (kinds : List Kind) (k : ℕ) → (k < length kinds) ⊎ (slice_index_or kinds k no_kind ≡ no_kind)
beyond [] k = inr refl
beyond (x ∷ xs) zero = inl (omega arith)
beyond (x ∷ xs) (suc k) = elim (beyond xs k) [
  | inl a ↦ inl (omega (arith, a))
  | inr a ↦ inr a
]

declared_clean : (S : Declarations) (k : ℕ) (x : Handler) → IsDeclared S → IsIn x (kind_of S k).handlers → is_dumped x.on ≡ false → (slot kind : ℕ) → Within (stmt.CreateFromState slot kind) x.block → ⊥
declared_clean S k x D i d slot kind w = elim (beyond S.kinds k) [
  | inl a ↦ block_clean S k x (D.kinds k a) i d slot kind w
  | inr a ↦ elim (subst (λ z. IsIn x z.handlers) a i) [ ]
]

block_at : (o : Option Handler) (block : List Stmt) → option_map (λ x. x.block) o ≡ Some block → (x : Handler) × (o ≡ Some x) × (x.block ≡ block)
block_at None block e = absurd cc
block_at (Some x) block e = (x, refl, Some-injective e)

block_in : (S : Declarations) (b : Body) (item : Item) (block : List Stmt) → IsDeclared S → IsOther S item → IsIn block (blocks S b item) → (slot kind : ℕ) → Within (stmt.CreateFromState slot kind) block → ⊥
block_in S b item block D k i slot kind w =
    let r = made_from (λ h. option_map (λ x. x.block) (handler_of (kind_of S b.kind) h)) (handlers S b item) block i in
    let q = block_at (handler_of (kind_of S b.kind) r.0) block r.2 in
    declared_clean S b.kind q.0 D (got_in (kind_of S b.kind).handlers r.0 q.0 q.1) (not_dumped S item q.0.on k (runs S b item r.0 q.0 q.1 r.1)) slot kind
    (subst (λ z. Within (stmt.CreateFromState slot kind) z) (sym q.2) w)

tasks_clean : (ps : List ℤ) (bs : List (List Stmt)) → ((block : List Stmt) → IsIn block bs → (slot kind : ℕ) → Within (stmt.CreateFromState slot kind) block → ⊥) → AreClean (flat_map (λ b. BeginHandler ps ∷ map Do b) bs)
tasks_clean ps [] h = tt
tasks_clean ps (b ∷ bs) h = (tt, clean_append (map Do b) (flat_map (λ b. BeginHandler ps ∷ map Do b) bs) (clean_block b (h b here)) (tasks_clean ps bs (λ block i. h block (there i))))

quiet : (S : Declarations) (b : Body) (item : Item) (body : Body) (effects : List Effect) (slot kind : ℕ) (v : List ℤ)
    → IsDeclared S → IsOther S item → Reacts S b item (outcome.Done body effects) → Contains effects (effect.Create slot kind (State v)) → ⊥
unfolding Reacts first_config
quiet S b item body effects slot kind v D k r c =
    let start : IsQuiet (first_config S b item) = record { todo = tasks_clean (parameters item) (blocks S (prepared S b item) item) (λ block i. block_in S (prepared S b item) item block D k i); effects = tt } in
    stateless_in effects slot kind v (subst IsGood r.1 (after_good (context S item) r.0 (Running (first_config S b item)) start)) (contains_in (effect.Create slot kind (State v)) effects c)

state_in : (v : List ℤ) (es : List Effect) (slot kind : ℕ) (w : List ℤ) → HaveState v es → IsIn (effect.Create slot kind (State w)) es → w ≡ v
state_in v [] slot kind w h i = elim i [ ]
state_in v (x ∷ es) slot kind w h here = h.0
state_in v (x ∷ es) slot kind w h (there i) = state_in v es slot kind w h.1 i

pub creates_from_dumps_alone : (S : Declarations) → IsDeclared S → CreatesFromDumpsAlone S
creates_from_dumps_alone S D b (Control (Dumped from v)) body effects slot kind w r c =
    let e = state_in v effects slot kind w (bounded S b (Control (Dumped from v)) body effects r).states (contains_in (effect.Create slot kind (State w)) effects c) in
    (from, ap (λ z. Control (Dumped from z)) (sym e))
creates_from_dumps_alone S D b (Control (Init vs)) body effects slot kind w r c = absurd (quiet S b (Control (Init vs)) body effects slot kind w D (λ s. refl) r c)
creates_from_dumps_alone S D b (Control Start) body effects slot kind w r c = absurd (quiet S b (Control Start) body effects slot kind w D (λ s. refl) r c)
creates_from_dumps_alone S D b (Control Stop) body effects slot kind w r c = absurd (quiet S b (Control Stop) body effects slot kind w D (λ s. refl) r c)
creates_from_dumps_alone S D b (Control Dump) body effects slot kind w r c = absurd (quiet S b (Control Dump) body effects slot kind w D (λ s. refl) r c)
creates_from_dumps_alone S D b (Control (Fault s n)) body effects slot kind w r c = absurd (quiet S b (Control (Fault s n)) body effects slot kind w D (λ s. refl) r c)
creates_from_dumps_alone S D b (Arrival x d n port Outside event back) body effects slot kind w r c = absurd (quiet S b (Arrival x d n port Outside event back) body effects slot kind w D (λ s. refl) r c)
creates_from_dumps_alone S D b (Arrival x d n port Inside event back) body effects slot kind w r c = absurd (quiet S b (Arrival x d n port Inside event back) body effects slot kind w D (λ s. refl) r c)
