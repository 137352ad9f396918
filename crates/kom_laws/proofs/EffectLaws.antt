-- What the small steps of a handling can add to its effects.
use Rattle.std.proofs.Common.{◌≡◌, ℕ, ℤ, zero, suc, ◌+◌, ◌<◌, ◌≤◌, Bool, true, false, cond, not, ◌||◌, refl, sym, ap, ◌∙◌, subst, List, [], ◌∷◌, ◌++◌, length, Option, Some, None, Result, Ok, Err, arith, if◌then◌else◌}
use Rattle.std.specs.Prelude.{nat_le, nat_lt, is_none, is_some, slice_set, unwrap_or, ◌==◌}
use Rattle.std.specs.List.{count_by, list_any}
use Rattle.std.proofs.lemmas.List.{length-append}
use Rattle.std.proofs.lemmas.List.Sums.{sum_by-append}
use Rattle.std.proofs.lemmas.Bool.{leb-false}
use Rattle.kom_base.specs.declared.numbers.Dir.{Dir}
use Rattle.kom_base.specs.Lists.{either}
use Rattle.kom_lang.specs.Declarations.{Declarations, height_of}
use Rattle.kom_lang.specs.Values.{value, values, is_zero}
use Rattle.kom_lang.specs.declared.kind.Place.{Place}
use Rattle.kom_lang.specs.declared.body.Birth.{Birth}
use Rattle.kom_lang.specs.declared.stmt.Stmt.{Stmt, Stmt-F, out-Stmt}
use Rattle.kom_lang.specs.declared.stmt.Stmt.TheOpen.{Let, SetVar, SetLocal, If, While, Trigger, Answer, Create, CreateFromState, Start, Stop, Destroy, Dump, Hold, Resume, Unplug, Plug, Subscribe, Unsubscribe, Fail, Escalate}
use Rattle.kom_lang.specs.declared.stmt.Target.{Target}
use Rattle.kom_lang.specs.declared.stmt.Target.TheVariants.{Own, Child}
use Rattle.kom_lang.specs.declared.body.Body.{Body}
use Rattle.kom_lang.specs.declared.body.Birth.TheVariants.{Args, State}
use Rattle.kom_lang.specs.declared.body.Effect.{Effect}
use Rattle.kom_lang.specs.declared.body.Effect.TheVariants as effect
use Rattle.kom_lang.specs.Steps.{Task, Do, EndBlock, BeginHandler, Config, Context, Progress, Running, Ended, Faulted, with_value, with_todo, with_scope, with_body, with_vars, with_slot, with_wire, with_held, with_end, wire_of, end_of, child_in, is_plugged_at, count_of_vars, port_for, creates, tells_child, valuation, unless_faulty, first_fault, takes_effect, is_escalate, branches, loops, plugs_at, statement_step, task_step, config_step, step, after}
use Rattle.kom_record.specs.declared.item.Item.{Item}
use Rattle.kom_record.specs.declared.entry.Outcome.TheVariants as outcome
use Rattle.kom_record.specs.Reaction.{Reacts, state_of, context, first_config}
use Rattle.kom_laws.specs.Laws.{HasState, HaveState, IsBounded}

abbrev pub weight : Effect → ℕ
weight e = cond (is_escalate e) 1 0

none_at : (x : Effect) (es : List Effect) (t : Bool) → is_escalate x ≡ t → (is_escalate x || list_any is_escalate es) ≡ false → (list_any is_escalate es ≡ false → count_by is_escalate es ≡ 0)
    → count_by is_escalate (x ∷ es) ≡ 0
none_at x es true a e rest = absurd (let f : true ≡ false = ap (λ t. t || list_any is_escalate es) (sym a) ∙ e in cc)
none_at x es false a e rest =
    let n : count_by is_escalate es ≡ 0 = rest (ap (λ t. t || list_any is_escalate es) (sym a) ∙ e) in
    let m : weight x ≡ 0 = ap (λ t. cond t 1 0) a in
    omega (arith, n, m, sum_by-append weight (x ∷ []) es)

counted : (es : List Effect) (e : Effect) → count_by is_escalate (es ++ e ∷ []) ≡ count_by is_escalate es + weight e
counted es e = sum_by-append weight es (e ∷ []) ∙ ap (λ n. count_by is_escalate es + n) (omega arith)

once_more : (es : List Effect) (e : Effect) (t : Bool) → is_escalate e ≡ t → count_by is_escalate es ≤ 1 → (is_escalate e ≡ true → count_by is_escalate es ≡ 0) → count_by is_escalate (es ++ e ∷ []) ≤ 1
once_more es e true q h o = let z = o q in let s = counted es e in let w : weight e ≡ 1 = ap (λ t. cond t 1 0) q in omega (arith, z, s, w)
once_more es e false q h o = let s = counted es e in let w : weight e ≡ 0 = ap (λ t. cond t 1 0) q in omega (arith, h, s, w)

-- no escalation, by either word
none_so_far : (es : List Effect) → list_any is_escalate es ≡ false → count_by is_escalate es ≡ 0
none_so_far [] e = refl
none_so_far (x ∷ es) e = none_at x es (is_escalate x) refl e (none_so_far es)

states_more : (v : List ℤ) (es : List Effect) (e : Effect) → HaveState v es → HasState v e → HaveState v (es ++ e ∷ [])
states_more v [] e h k = (k, tt)
states_more v (x ∷ es) e h k = (h.0, states_more v es e h.1 k)

module _ (g : Context) where
  abbrev IsGood : Progress → Type 0
  IsGood (Running c) = IsBounded g.state c.effects
  IsGood (Ended body es) = IsBounded g.state es
  IsGood (Faulted n) = Unit {0}

  with_value_good : (r : Result ℤ ℕ) (go : ℤ → Progress) → ((v : ℤ) → IsGood (go v)) → IsGood (with_value r go)
  with_value_good (Ok v) go h = h v
  with_value_good (Err n) go h = tt

  with_values_good : (r : Result (List ℤ) ℕ) (go : List ℤ → Progress) → ((v : List ℤ) → IsGood (go v)) → IsGood (with_value r go)
  with_values_good (Ok v) go h = h v
  with_values_good (Err n) go h = tt

  adds : (es : List Effect) (e : Effect) → IsBounded g.state es → length es < 32 → (is_escalate e ≡ true → count_by is_escalate es ≡ 0) → HasState g.state e → IsBounded g.state (es ++ e ∷ [])
  adds es e h l o k = record { few = omega (arith, length-append es (e ∷ []), l); once = once_more es e (is_escalate e) refl h.once o; states = states_more g.state es e h.states k }

  module _ (c : Config) (e : Effect) (body : Body) (h : IsBounded g.state c.effects) (o : is_escalate e ≡ true → count_by is_escalate c.effects ≡ 0) (k : HasState g.state e) where
    abbrev added : Progress
    added = Running (record { todo = c.todo; scope = c.scope; body = body; effects = c.effects ++ e ∷ []; turns = c.turns })

    takes_at : (b : Bool) → nat_le 32 (length c.effects) ≡ b → (n : Option ℕ) → IsGood (unless_faulty (either (if b then Some 4 else None) n) added)
    takes_at true q n = tt
    takes_at false q None = adds c.effects e h (leb-false 32 (length c.effects) q) o k
    takes_at false q (Some n) = tt

    takes : (checks : _) → IsGood (takes_effect c checks e body)
    takes checks = takes_at (nat_le 32 (length c.effects)) refl (first_fault checks)

  branches_good : (c : Config) (b : Bool) (block : List Stmt) (other : Option (List Stmt)) → IsBounded g.state c.effects → IsGood (branches c b block other)
  branches_good c true block other h = h
  branches_good c false block None h = h
  branches_good c false block (Some other) h = h

  turn_good : (b : Bool) (c : Config) → IsBounded g.state c.effects → IsGood (if b then Faulted 3 else Running c)
  turn_good true c h = tt
  turn_good false c h = h

  loops_good : (c : Config) (b : Bool) (loop : Stmt) (block : List Stmt) → IsBounded g.state c.effects → IsGood (loops c b loop block)
  loops_good c false loop block h = h
  loops_good c true loop block h = turn_good (nat_le 10000 c.turns) _ h

  -- an effect that is no escalation
  plain : (c : Config) (checks : List (Bool × ℕ)) (e : Effect) (body : Body) → is_escalate e ≡ false → HasState g.state e → IsBounded g.state c.effects → IsGood (takes_effect c checks e body)
  plain c checks e body f k h = takes c e body h (λ t. absurd (let q : true ≡ false = sym t ∙ f in cc)) k checks

  plugs_good : (c : Config) (x : ℕ) (end : Dir) (target : Target) → IsBounded g.state c.effects → IsGood (plugs_at g.declarations c x end target)
  plugs_good c x end (Own q) h =
      plain c ((not (wire_of c.body x).held, 8) ∷ (is_some (end_of (wire_of c.body x) end), 9) ∷ []) (effect.Plug x end (record { slot = None; port = q }))
      (with_wire c.body x (with_end (wire_of c.body x) end (Some (record { slot = None; port = q })))) refl tt h
  plugs_good c x end (Child s name) h =
      let q = port_for g.declarations c.body x end s name in
      let p : Place = record { slot = Some s; port = unwrap_or q 0 } in
      plain c ((not (wire_of c.body x).held, 8) ∷ (is_some (end_of (wire_of c.body x) end), 9) ∷ (is_none (child_in c.body s), 6) ∷ (is_none q, 11) ∷ []) (effect.Plug x end p)
      (with_wire c.body x (with_end (wire_of c.body x) end (Some p))) refl tt h

  escalates_good : (b : Bool) (c : Config) → list_any is_escalate c.effects ≡ b → IsBounded g.state c.effects → IsGood (if b then Running c else takes_effect c [] effect.Escalate c.body)
  escalates_good true c q h = h
  escalates_good false c q h = takes c effect.Escalate c.body h (λ t. none_so_far c.effects q) tt []

  creates_good : (c : Config) (s kind : ℕ) (shape : Bool) (birth : Birth) → HasState g.state (effect.Create s kind birth) → IsBounded g.state c.effects → IsGood (creates g.declarations c s kind shape birth)
  creates_good c s kind shape birth k h =
      plain c ((is_some (child_in c.body s), 5) ∷ (shape, 12) ∷ (nat_lt 16 (c.body.depth + height_of g.declarations kind), 13) ∷ []) (effect.Create s kind birth)
      (with_slot c.body s (Some kind)) refl k h

  tells_good : (c : Config) (s : ℕ) (e : Effect) → is_escalate e ≡ false → HasState g.state e → IsBounded g.state c.effects → IsGood (tells_child c s e)
  tells_good c s e f k h = plain c ((is_none (child_in c.body s), 6) ∷ []) e c.body f k h

  statement_good : (c : Config) (s : Stmt) (f : Stmt-F Stmt) → IsBounded g.state c.effects → IsGood (statement_step g c s f)
  statement_good c s (Let name e) h = with_value_good (value e (valuation g c)) (λ v. Running (with_scope c (c.scope ++ v ∷ []))) (λ v. h)
  statement_good c s (SetVar i e) h = with_value_good (value e (valuation g c)) (λ v. Running (with_body c (with_vars c.body (slice_set c.body.vars i v)))) (λ v. h)
  statement_good c s (SetLocal i e) h = with_value_good (value e (valuation g c)) (λ v. Running (with_scope c (slice_set c.scope i v))) (λ v. h)
  statement_good c s (If e block other) h = with_value_good (value e (valuation g c)) (λ v. branches c (not (is_zero v)) block other) (λ v. branches_good c (not (is_zero v)) block other h)
  statement_good c s (While e block) h = with_value_good (value e (valuation g c)) (λ v. loops c (not (is_zero v)) s block) (λ v. loops_good c (not (is_zero v)) s block h)
  statement_good c s (Trigger kind es port) h =
      with_values_good (values es (valuation g c)) (λ vs. takes_effect c [] (effect.Trigger port (record { kind = kind; values = vs })) c.body)
      (λ vs. plain c [] (effect.Trigger port (record { kind = kind; values = vs })) c.body refl tt h)
  statement_good c s (Answer kind es) h =
      with_values_good (values es (valuation g c)) (λ vs. takes_effect c [] (effect.Answer (record { kind = kind; values = vs })) c.body)
      (λ vs. plain c [] (effect.Answer (record { kind = kind; values = vs })) c.body refl tt h)
  statement_good c s (Create slot kind es) h =
      with_values_good (values es (valuation g c)) (λ vs. creates g.declarations c slot kind false (Args vs)) (λ vs. creates_good c slot kind false (Args vs) tt h)
  statement_good c s (CreateFromState slot kind) h = creates_good c slot kind (not (length g.state == count_of_vars g.declarations kind)) (State g.state) refl h
  statement_good c s (Start slot) h = tells_good c slot (effect.Start slot) refl tt h
  statement_good c s (Stop slot) h = tells_good c slot (effect.Stop slot) refl tt h
  statement_good c s (Dump slot) h = tells_good c slot (effect.Dump slot) refl tt h
  statement_good c s (Destroy slot) h = plain c ((is_none (child_in c.body slot), 6) ∷ (is_plugged_at c.body slot, 7) ∷ []) (effect.Destroy slot) (with_slot c.body slot None) refl tt h
  statement_good c s (Hold x) h = plain c [] (effect.Hold x) (with_wire c.body x (with_held (wire_of c.body x) true)) refl tt h
  statement_good c s (Resume x) h =
      let w = wire_of c.body x in plain c ((is_none w.plus || is_none w.minus, 10) ∷ []) (effect.Resume x) (with_wire c.body x (with_held w false)) refl tt h
  statement_good c s (Unplug x end) h =
      let w = wire_of c.body x in plain c ((not w.held, 8) ∷ (is_none (end_of w end), 10) ∷ []) (effect.Unplug x end) (with_wire c.body x (with_end w end None)) refl tt h
  statement_good c s (Plug x end target) h = plugs_good c x end target h
  statement_good c s (Subscribe x) h = h
  statement_good c s (Unsubscribe x) h = h
  statement_good c s (Fail n) h = tt
  statement_good c s Escalate h = escalates_good (list_any is_escalate c.effects) c refl h

  task_good : (c : Config) (t : Task) → IsBounded g.state c.effects → IsGood (task_step g c t)
  task_good c (Do s) h = statement_good c s (out-Stmt s) h
  task_good c (EndBlock n) h = h
  task_good c (BeginHandler ps) h = h

  config_good : (c : Config) (todo : List Task) → IsBounded g.state c.effects → IsGood (config_step g c todo)
  config_good c [] h = h
  config_good c (t ∷ ts) h = task_good (with_todo c ts) t h

  step_good : (p : Progress) → IsGood p → IsGood (step g p)
  step_good (Running c) h = config_good c c.todo h
  step_good (Ended body es) h = h
  step_good (Faulted n) h = h

  after_good : (n : ℕ) (p : Progress) → IsGood p → IsGood (after n g p)
  after_good zero p h = h
  after_good (suc n) p h = after_good n (step g p) (step_good p h)

pub bounded : (S : Declarations) (b : Body) (item : Item) (body : Body) (effects : List Effect) → Reacts S b item (outcome.Done body effects) → IsBounded (state_of item) effects
unfolding Reacts first_config
bounded S b item body effects r =
    subst (IsGood (context S item)) r.1
    (after_good (context S item) r.0 (Running (first_config S b item)) (record { few = omega arith; once = omega arith; states = tt }))
