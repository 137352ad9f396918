-- The steps of a handling keep its body in agreement with its effects.
use Rattle.std.proofs.Common.{◌≡◌, ℕ, ℤ, zero, suc, ◌+◌, ◌<◌, Bool, true, false, if◌then◌else◌, not, ◌||◌, ◌==◌, refl, sym, ap, ◌∙◌, subst, List, [], ◌∷◌, ◌++◌, length, filter, Option, Some, None, Result, Ok, Err, ◌⊎◌, inl, inr, arith}
use Rattle.std.specs.Prelude.{map, slice_get, slice_set, nat_le, nat_lt, is_none, is_some, unwrap_or, Contains}
use Rattle.std.specs.List.{list_any, list_all}
use Rattle.std.specs.Option.{option_map_or, option_and_then}
use Rattle.std.proofs.lemmas.List.{length-append}
use Rattle.std.proofs.lemmas.Bool.{eqb-true, ltb-true, ltb-false, lt-ltb}
use Rattle.std.proofs.lemmas.Option.{slice_get_within}
use Rattle.kom_base.specs.declared.numbers.Dir.{Dir}
use Rattle.kom_base.specs.declared.numbers.Dir.TheVariants.{Plus, Minus}
use Rattle.kom_base.specs.declared.numbers.Side.TheVariants.{Outside, Inside}
use Rattle.kom_base.specs.Lists.{either, holds_number}
use Rattle.kom_lang.specs.Declarations.{Declarations, height_of, kind_of, handler_of, is_init}
use Rattle.kom_lang.specs.Values.{value, values, is_zero}
use Rattle.kom_lang.specs.declared.kind.ChannelDecl.{ChannelDecl}
use Rattle.kom_lang.specs.declared.kind.Place.{Place}
use Rattle.kom_lang.specs.declared.kind.PortDecl.{PortDecl}
use Rattle.kom_lang.specs.declared.expr.Expr.{Expr}
use Rattle.kom_lang.specs.declared.stmt.On.{On}
use Rattle.kom_lang.specs.declared.stmt.On.TheVariants as on
use Rattle.kom_lang.specs.declared.stmt.Stmt.{Stmt, Stmt-F, out-Stmt, roll-Stmt}
use Rattle.kom_lang.specs.declared.stmt.Stmt.TheVariants as stmt
use Rattle.kom_lang.specs.declared.stmt.Stmt.TheOpen.{Let, SetVar, SetLocal, If, While, Trigger, Answer, Create, CreateFromState, Start, Stop, Destroy, Dump, Hold, Resume, Unplug, Plug, Subscribe, Unsubscribe, Fail, Escalate}
use Rattle.kom_lang.specs.declared.stmt.Target.{Target}
use Rattle.kom_lang.specs.declared.stmt.Target.TheVariants.{Own, Child}
use Rattle.kom_lang.specs.declared.body.Body.{Body}
use Rattle.kom_lang.specs.declared.body.Birth.{Birth}
use Rattle.kom_lang.specs.declared.body.Birth.TheVariants.{Args, State}
use Rattle.kom_lang.specs.declared.body.Effect.{Effect}
use Rattle.kom_lang.specs.declared.body.Effect.TheVariants as effect
use Rattle.kom_lang.specs.Steps.{Task, Do, EndBlock, BeginHandler, Config, Progress, Running, Ended, Faulted, with_value, with_todo, with_scope, with_body, with_vars, with_subs, with_slot, with_wire, with_held, with_end, wire_of, end_of, child_in, is_plugged_at, count_of_vars, port_for, port_named, port_of_channel, takes_end, creates, tells_child, valuation, unless_faulty, first_fault, takes_effect, is_escalate, branches, loops, plugs_at, statement_step, task_step, config_step, step, after}
use Rattle.kom_system.specs.Fitting.{arity, takes_at}
use Rattle.kom_system.specs.Statements.{Within, Here, InIf, InElse, InWhile, StatementFits, statement_fits, answer_fits, event_leaves, target_fits}
use Rattle.kom_record.specs.declared.item.Item.{Item}
use Rattle.kom_record.specs.declared.item.Item.TheVariants.{Control, Arrival}
use Rattle.kom_record.specs.declared.item.Control.TheVariants as control
use Rattle.kom_record.specs.Model.{model}
use Rattle.kom_record.specs.Entries.{Act, acts_for}
use Rattle.kom_record.specs.Instances.{born, occupant, ancestry_of}
use Rattle.kom_record.specs.Channels.{half_of}
use Rattle.kom_record.specs.Plans.{is_place_in, is_wire_in}
use Rattle.kom_record.specs.Reaction.{context, handles, state_of}
use Rattle.kom_laws.proofs.Members.{IsIn, here, there, Some-injective}
use Rattle.kom_laws.proofs.ActLaws.{one_more}
use Rattle.kom_laws.proofs.DumpsAlone.{in_contains, contains_in, rolled}
use Rattle.kom_laws.proofs.InstanceLaws.{born_grows, instance_stays}
use Rattle.kom_agree.specs.Agrees.{Agrees, AgreesBefore}
use Rattle.kom_agree.specs.Bodies.{BodyFits, EndsTake, birth_fits, place_takes}
use Rattle.kom_agree.specs.Effects.{AreMet, IsMet, IsFilled, MayAnswer, may_leave}
use Rattle.kom_agree.proofs.Born.{both, both_of, some_of}
use Rattle.kom_agree.proofs.Acts.{own_hold, own_resume, own_unplug, own_plug, own_create, own_destroy, wire_fits}
use Rattle.kom_agree.proofs.Takes.{vars_take, subs_take, held_takes, moved_takes, filled_takes, emptied_takes, outside_takes}
use Rattle.kom_agree.proofs.Small.{so_far, either_false, not_false, there_is, there_is_none, passed, as_many, all_more, all_kept, agreed_more, met_more, empty_slot, filled_slot, half_there, end_there, vars_fit, subs_fit, wire_fit, slot_fit, filled_apart, free_apart}

-- a handler for the item, or one for Init
abbrev pub IsFor : Declarations → Item → On → Type 0
IsFor S item o = (handles S item o ≡ true) ⊎ (is_init o ≡ true)

-- where the component is, and what it handles
pub record HandlingAt : Type 0 where
  pub done : List Act
  pub c : ℕ
  pub item : Item
  pub kind : ℕ
  pub depth : ℕ

module _ (S : Declarations) (at : HandlingAt) where
  -- ---- what the steps keep

  abbrev acts_now : List Effect → List Act
  acts_now es = so_far at.c at.item at.done es

  -- the statement and those inside it fit in a handler for the item
  abbrev IsFit : On → Stmt → Type 0
  IsFit o s = (x : Stmt) → Within x (s ∷ []) → StatementFits S (kind_of S at.kind) o x

  abbrev pub IsFitTask : Task → Type 0
  IsFitTask (Do s) = (o : On) × IsFor S at.item o × IsFit o s
  IsFitTask (EndBlock n) = Unit {0}
  IsFitTask (BeginHandler ps) = Unit {0}

  abbrev pub AreFit : List Task → Type 0
  AreFit [] = Unit {0}
  AreFit (t ∷ ts) = IsFitTask t × AreFit ts

  pub fit_append : (xs ys : List Task) → AreFit xs → AreFit ys → AreFit (xs ++ ys)
  fit_append [] ys h k = k
  fit_append (x ∷ xs) ys h k = (h.0, fit_append xs ys h.1 k)

  pub record IsKept (b : Body) (es : List Effect) : Type 0 where
    pub fits : BodyFits S b
    pub takes : EndsTake S b
    pub kind : b.kind ≡ at.kind
    pub depth : b.depth ≡ at.depth
    pub agrees : Agrees S (acts_now es) at.c b
    pub met : AreMet S at.done at.c at.kind at.item es
    pub agreed : AgreesBefore S at.done at.c at.item es

  pub record IsSound (f : Config) : Type 0 where
    pub todo : AreFit f.todo
    pub kept : IsKept f.body f.effects

  abbrev pub IsGood : Progress → Type 0
  IsGood (Running f) = IsSound f
  IsGood (Ended body es) = IsKept body es
  IsGood (Faulted n) = Unit {0}

  -- ---- blocks

  within_more : (x : Stmt) (xs ys : List Stmt) → ((y : Stmt) → Contains xs y → Contains ys y) → Within x xs → Within x ys
  within_more x xs ys m (Here b c) = Here ys (m x c)
  within_more x xs ys m (InIf b test block other c w) = InIf ys test block other (m _ c) w
  within_more x xs ys m (InElse b test block other c w) = InElse ys test block other (m _ c) w
  within_more x xs ys m (InWhile b test inner c w) = InWhile ys test inner (m _ c) w

  first_in : (y s : Stmt) (part : List Stmt) → IsIn y (s ∷ []) → IsIn y (s ∷ part)
  first_in y y' part here = here
  first_in y s part (there i) = elim i [ ]

  fit_part : (o : On) (block part : List Stmt) → IsFor S at.item o → ((y : Stmt) → IsIn y part → IsIn y block) → ((x : Stmt) → Within x block → StatementFits S (kind_of S at.kind) o x) → AreFit (map Do part)
  fit_part o block [] k m h = tt
  fit_part o block (s ∷ part) k m h = (
    (o, k, λ x w. h x (within_more x (s ∷ []) block (λ y c. in_contains y block (m y (first_in y s part (contains_in y (s ∷ []) c)))) w)),
    fit_part o block part k (λ y i. m y (there i)) h,
  )

  pub fit_block : (o : On) (block : List Stmt) → IsFor S at.item o → ((x : Stmt) → Within x block → StatementFits S (kind_of S at.kind) o x) → AreFit (map Do block)
  fit_block o block k h = fit_part o block block k (λ y i. i) h

  if_is : (e : Expr) (block : List Stmt) (other : Option (List Stmt)) → roll-Stmt (If e block other) ≡ stmt.If e block other
  unfolding roll-Stmt denote.Hole.Carrier.roll
  if_is e block other = refl

  while_is : (e : Expr) (block : List Stmt) → roll-Stmt (While e block) ≡ stmt.While e block
  unfolding roll-Stmt denote.Hole.Carrier.roll
  while_is e block = refl

  alone : (s t : Stmt) → s ≡ t → Contains (s ∷ []) t
  alone s t e = subst (Contains (s ∷ [])) e (in_contains s (s ∷ []) here)

  in_if : (s : Stmt) (e : Expr) (block : List Stmt) (other : Option (List Stmt)) (o : On) → out-Stmt s ≡ If e block other → IsFor S at.item o → IsFit o s → AreFit (map Do block)
  in_if s e block other o q k h = fit_block o block k (λ x w. h x (InIf (s ∷ []) e block other (alone s (stmt.If e block other) (rolled s (If e block other) q ∙ if_is e block other)) w))

  in_else : (s : Stmt) (e : Expr) (block other : List Stmt) (o : On) → out-Stmt s ≡ If e block (Some other) → IsFor S at.item o → IsFit o s → AreFit (map Do other)
  in_else s e block other o q k h = fit_block o other k (λ x w. h x (InElse (s ∷ []) e block other (alone s (stmt.If e block (Some other)) (rolled s (If e block (Some other)) q ∙ if_is e block (Some other))) w))

  in_while : (s : Stmt) (e : Expr) (block : List Stmt) (o : On) → out-Stmt s ≡ While e block → IsFor S at.item o → IsFit o s → AreFit (map Do block)
  in_while s e block o q k h = fit_block o block k (λ x w. h x (InWhile (s ∷ []) e block (alone s (stmt.While e block) (rolled s (While e block) q ∙ while_is e block)) w))

  self_fits : (s : Stmt) (f : Stmt-F Stmt) (o : On) → out-Stmt s ≡ f → IsFit o s → statement_fits S (kind_of S at.kind) o f ≡ true
  self_fits s f o q h = ap (statement_fits S (kind_of S at.kind) o) (sym q) ∙ h s (Here (s ∷ []) (in_contains s (s ∷ []) here))

  entered : (c : Config) (block : List Stmt) → AreFit (map Do block) → AreFit c.todo → AreFit (map Do block ++ EndBlock (length c.scope) ∷ c.todo)
  entered c block k h = fit_append (map Do block) (EndBlock (length c.scope) ∷ c.todo) k (tt, h)

  branches_good : (c : Config) (b : Bool) (s : Stmt) (e : Expr) (block : List Stmt) (other : Option (List Stmt)) (o : On) → out-Stmt s ≡ If e block other → IsFor S at.item o → IsFit o s → IsSound c → IsGood (branches c b block other)
  branches_good c true s e block other o q k f h = record { todo = entered c block (in_if s e block other o q k f) h.todo; kept = h.kept }
  branches_good c false s e block None o q k f h = h
  branches_good c false s e block (Some other) o q k f h = record { todo = entered c other (in_else s e block other o q k f) h.todo; kept = h.kept }

  turn_good : (b : Bool) (c : Config) → IsSound c → IsGood (if b then Faulted 3 else Running c)
  turn_good true c h = tt
  turn_good false c h = h

  loops_good : (c : Config) (b : Bool) (s : Stmt) (e : Expr) (block : List Stmt) (o : On) → out-Stmt s ≡ While e block → IsFor S at.item o → IsFit o s → IsSound c → IsGood (loops c b s block)
  loops_good c false s e block o q k f h = h
  loops_good c true s e block o q k f h =
      turn_good (nat_le 10000 c.turns) _
      (record { todo = fit_append (map Do block) (EndBlock (length c.scope) ∷ Do s ∷ c.todo) (in_while s e block o q k f) (tt, ((o, k, f), h.todo)); kept = h.kept })

  -- ---- one effect more

  with_value_good : (r : Result ℤ ℕ) (go : ℤ → Progress) → ((v : ℤ) → IsGood (go v)) → IsGood (with_value r go)
  with_value_good (Ok v) go h = h v
  with_value_good (Err n) go h = tt

  with_values_good : (r : Result (List ℤ) ℕ) (go : List ℤ → Progress) → ((v : List ℤ) → r ≡ Ok v → IsGood (go v)) → IsGood (with_value r go)
  with_values_good (Ok v) go h = h v refl
  with_values_good (Err n) go h = tt

  adds : (b : Body) (es : List Effect) (e : Effect) (body : Body) → IsKept b es → BodyFits S body → EndsTake S body → body.kind ≡ b.kind → body.depth ≡ b.depth
      → Agrees S (record { by = at.c; item = at.item; effect = e } ∷ acts_now es) at.c body → IsMet S (acts_now es) at.c at.kind at.item e → IsKept body (es ++ e ∷ [])
  adds b es e body h f t k d a m = record {
    fits = f;
    takes = t;
    kind = k ∙ h.kind;
    depth = d ∙ h.depth;
    agrees = subst (λ l. Agrees S (l ++ at.done) at.c body) (sym (one_more at.c at.item es e)) a;
    met = met_more S at.done at.c at.kind at.item es e h.met m;
    agreed = agreed_more S at.done at.c at.item es e b h.agreed h.agrees;
  }

  goes_at : (c : Config) (e : Effect) (body : Body) (b : Bool) (n : Option ℕ) → AreFit c.todo → (n ≡ None → IsKept body (c.effects ++ e ∷ []))
      → IsGood (unless_faulty (either (if b then Some 4 else None) n) (Running (record { todo = c.todo; scope = c.scope; body = body; effects = c.effects ++ e ∷ []; turns = c.turns })))
  goes_at c e body true n h k = tt
  goes_at c e body false None h k = record { todo = h; kept = k refl }
  goes_at c e body false (Some n) h k = tt

  goes : (c : Config) (checks : List (Bool × ℕ)) (e : Effect) (body : Body) → AreFit c.todo → (first_fault checks ≡ None → IsKept body (c.effects ++ e ∷ [])) → IsGood (takes_effect c checks e body)
  goes c checks e body h k = goes_at c e body (nat_le 32 (length c.effects)) (first_fault checks) h k

  -- an effect that changes neither slots nor channels
  quiet : (c : Config) (checks : List (Bool × ℕ)) (e : Effect) → IsSound c → (Agrees S (acts_now c.effects) at.c c.body → Agrees S (record { by = at.c; item = at.item; effect = e } ∷ acts_now c.effects) at.c c.body)
      → (first_fault checks ≡ None → IsMet S (acts_now c.effects) at.c at.kind at.item e) → IsGood (takes_effect c checks e c.body)
  quiet c checks e h a m = goes c checks e c.body h.todo (λ n. adds c.body c.effects e c.body h.kept h.kept.fits h.kept.takes refl refl (a h.kept.agrees) (m n))

  -- ---- numbers by type

  -- the slot is one of the body
  slot_of : (b : Body) (es : List Effect) (slot : ℕ) → IsKept b es → nat_lt slot (length (kind_of S at.kind).slots) ≡ true → slot < length b.slots
  slot_of b es slot h e = let l = ltb-true slot (length (kind_of S at.kind).slots) e in let s = h.fits.slots in let k : length (kind_of S b.kind).slots ≡ length (kind_of S at.kind).slots = ap (λ k. length (kind_of S k).slots) h.kind in omega (arith, l, s, k)

  wire_in_range : (b : Body) (es : List Effect) (k : ℕ) → IsKept b es → k < length (kind_of S at.kind).channels → k < length b.wires
  wire_in_range b es k h l = let s = h.fits.wires in let q : length (kind_of S b.kind).channels ≡ length (kind_of S at.kind).channels = ap (λ k. length (kind_of S k).channels) h.kind in omega (arith, l, s, q)

  filled : (c : Config) (slot : ℕ) (o : On) → IsSound c → nat_lt slot (length (kind_of S at.kind).slots) ≡ true → first_fault ((is_none (child_in c.body slot), 6) ∷ []) ≡ None → IsFilled S (acts_now c.effects) at.c at.kind slot
  filled c slot o h e n =
      let r = there_is (child_in c.body slot) (passed (is_none (child_in c.body slot)) 6 [] n).0 in
      record { slot_is = ltb-true slot (length (kind_of S at.kind).slots) e; filled = filled_slot S (acts_now c.effects) at.c c.body slot r.0 h.kept.agrees r.1 }

  told : (c : Config) (slot : ℕ) (o : On) → IsSound c → nat_lt slot (length (kind_of S at.kind).slots) ≡ true → (e : Effect)
      → (Agrees S (acts_now c.effects) at.c c.body → Agrees S (record { by = at.c; item = at.item; effect = e } ∷ acts_now c.effects) at.c c.body)
      → (IsFilled S (acts_now c.effects) at.c at.kind slot → IsMet S (acts_now c.effects) at.c at.kind at.item e) → IsGood (tells_child c slot e)
  told c slot o h f e a m = quiet c ((is_none (child_in c.body slot), 6) ∷ []) e h a (λ n. m (filled c slot o h f n))

  module _ (there : at.c < length (born S at.done)) (level : at.depth ≡ 1 + length (ancestry_of S (born S at.done) at.c)) where
    there_now : (es : List Effect) → at.c < length (born S (acts_now es))
    there_now es = let g = born_grows S (acts_for at.c (Some at.item) es) at.done in subst (λ l. at.c < length l) (sym g.1) (omega (arith, there, length-append (born S at.done) g.0))

    level_now : (es : List Effect) → at.depth ≡ 1 + length (ancestry_of S (born S (acts_now es)) at.c)
    unfolding ancestry_of
    level_now es = level ∙ sym (ap (λ o. 1 + length (option_map_or (λ i. i.ancestry) o [])) (instance_stays S (acts_for at.c (Some at.item) es) at.done at.c there))

    creates_good : (c : Config) (slot k : ℕ) (shape : Bool) (birth : Birth) → IsSound c → nat_lt slot (length (kind_of S at.kind).slots) ≡ true → nat_lt k (length S.kinds) ≡ true → (shape ≡ false → birth_fits S k birth ≡ true)
        → IsGood (creates S c slot k shape birth)
    creates_good c slot k shape birth h f g fit =
        goes c ((is_some (child_in c.body slot), 5) ∷ (shape, 12) ∷ (nat_lt 16 (c.body.depth + height_of S k), 13) ∷ []) (effect.Create slot k birth) (with_slot c.body slot (Some k)) h.todo
        (λ n.
        let a = passed (is_some (child_in c.body slot)) 5 ((shape, 12) ∷ (nat_lt 16 (c.body.depth + height_of S k), 13) ∷ []) n in
        let b = passed shape 12 ((nat_lt 16 (c.body.depth + height_of S k), 13) ∷ []) a.1 in
        let d = passed (nat_lt 16 (c.body.depth + height_of S k)) 13 [] b.1 in
        let none = there_is_none (child_in c.body slot) a.0 in
        let in_body = slot_of c.body c.effects slot h.kept f in
        let low = ltb-false 16 (c.body.depth + height_of S k) d.0 in
        let deep = h.kept.depth in
        let lev = level_now c.effects in
        adds c.body c.effects (effect.Create slot k birth) (with_slot c.body slot (Some k)) h.kept
        (slot_fit S c.body slot (Some k) h.kept.fits in_body g (λ w m q. filled_apart S c.body slot w none q)) (filled_takes S c.body slot (Some k) h.kept.fits h.kept.takes in_body none) refl refl
        (own_create S (acts_now c.effects) at.c at.item c.body slot k birth (there_now c.effects) h.kept.fits in_body none h.kept.agrees)
        (record {
          slot_is = ltb-true slot (length (kind_of S at.kind).slots) f;
          empty = empty_slot S (acts_now c.effects) at.c c.body slot h.kept.agrees none;
          kind_is = ltb-true k (length S.kinds) g;
          birth_is = fit b.0;
          depth = omega (arith, low, deep, lev);
        }))

    destroys_good : (c : Config) (slot : ℕ) (o : On) → IsSound c → nat_lt slot (length (kind_of S at.kind).slots) ≡ true
        → IsGood (takes_effect c ((is_none (child_in c.body slot), 6) ∷ (is_plugged_at c.body slot, 7) ∷ []) (effect.Destroy slot) (with_slot c.body slot None))
    destroys_good c slot o h f =
        goes c ((is_none (child_in c.body slot), 6) ∷ (is_plugged_at c.body slot, 7) ∷ []) (effect.Destroy slot) (with_slot c.body slot None) h.todo
        (λ n.
        let a = passed (is_none (child_in c.body slot)) 6 ((is_plugged_at c.body slot, 7) ∷ []) n in
        let b = passed (is_plugged_at c.body slot) 7 [] a.1 in
        let r = there_is (child_in c.body slot) a.0 in
        let in_body = slot_of c.body c.effects slot h.kept f in
        adds c.body c.effects (effect.Destroy slot) (with_slot c.body slot None) h.kept
        (slot_fit S c.body slot None h.kept.fits in_body refl (λ w m q. free_apart S c.body slot w b.0 m)) (emptied_takes S c.body slot h.kept.takes in_body b.0) refl refl
        (own_destroy S (acts_now c.effects) at.c at.item c.body slot in_body b.0 h.kept.agrees)
        (record { slot_is = ltb-true slot (length (kind_of S at.kind).slots) f; filled = filled_slot S (acts_now c.effects) at.c c.body slot r.0 h.kept.agrees r.1 }))

    holds_good : (c : Config) (k : ℕ) → IsSound c → nat_lt k (length (kind_of S at.kind).channels) ≡ true → IsGood (takes_effect c [] (effect.Hold k) (with_wire c.body k (with_held (wire_of c.body k) true)))
    holds_good c k h f =
        goes c [] (effect.Hold k) (with_wire c.body k (with_held (wire_of c.body k) true)) h.todo
        (λ n.
        let l = ltb-true k (length (kind_of S at.kind).channels) f in
        let g = wire_in_range c.body c.effects k h.kept l in
        adds c.body c.effects (effect.Hold k) (with_wire c.body k (with_held (wire_of c.body k) true)) h.kept
        (wire_fit S c.body k (with_held (wire_of c.body k) true) h.kept.fits (wire_fits S c.body k h.kept.fits g)) (held_takes S c.body k true h.kept.takes g) refl refl
        (own_hold S (acts_now c.effects) at.c at.item c.body k g h.kept.agrees) l)

    resumes_good : (c : Config) (k : ℕ) → IsSound c → nat_lt k (length (kind_of S at.kind).channels) ≡ true
        → IsGood (takes_effect c ((is_none (wire_of c.body k).plus || is_none (wire_of c.body k).minus, 10) ∷ []) (effect.Resume k) (with_wire c.body k (with_held (wire_of c.body k) false)))
    resumes_good c k h f =
        goes c ((is_none (wire_of c.body k).plus || is_none (wire_of c.body k).minus, 10) ∷ []) (effect.Resume k) (with_wire c.body k (with_held (wire_of c.body k) false)) h.todo
        (λ n.
        let a = passed (is_none (wire_of c.body k).plus || is_none (wire_of c.body k).minus) 10 [] n in
        let e = either_false (is_none (wire_of c.body k).plus) (is_none (wire_of c.body k).minus) a.0 in
        let p = there_is (wire_of c.body k).plus e.0 in
        let m = there_is (wire_of c.body k).minus e.1 in
        let l = ltb-true k (length (kind_of S at.kind).channels) f in
        let g = wire_in_range c.body c.effects k h.kept l in
        adds c.body c.effects (effect.Resume k) (with_wire c.body k (with_held (wire_of c.body k) false)) h.kept
        (wire_fit S c.body k (with_held (wire_of c.body k) false) h.kept.fits (wire_fits S c.body k h.kept.fits g)) (held_takes S c.body k false h.kept.takes g) refl refl
        (own_resume S (acts_now c.effects) at.c at.item c.body k g h.kept.agrees)
        (record {
          channel_is = l;
          plus = end_there S (acts_now c.effects) at.c c.body k Plus p.0 h.kept.agrees h.kept.fits g p.1;
          minus = end_there S (acts_now c.effects) at.c c.body k Minus m.0 h.kept.agrees h.kept.fits g m.1;
        }))

    freed_fits : (b : Body) (k : ℕ) (e : Dir) → is_wire_in S b (wire_of b k) ≡ true → is_wire_in S b (with_end (wire_of b k) e None) ≡ true
    freed_fits b k Plus h = both_of _ _ refl (both _ _ h).1
    freed_fits b k Minus h = both_of _ _ (both _ _ h).0 refl

    plugged_fits : (b : Body) (k : ℕ) (e : Dir) (p : Place) → is_wire_in S b (wire_of b k) ≡ true → is_place_in S b p ≡ true → is_wire_in S b (with_end (wire_of b k) e (Some p)) ≡ true
    plugged_fits b k Plus p h g = both_of _ _ g (both _ _ h).1
    plugged_fits b k Minus p h g = both_of _ _ (both _ _ h).0 g

    same_kind_end : (b : Body) (k : ℕ) (e : Dir) (o : Option Place) → ((with_wire b k (with_end (wire_of b k) e o)).kind ≡ b.kind) × ((with_wire b k (with_end (wire_of b k) e o)).depth ≡ b.depth)
    same_kind_end b k e o = (refl, refl)

    unplugs_good : (c : Config) (k : ℕ) (e : Dir) → IsSound c → nat_lt k (length (kind_of S at.kind).channels) ≡ true
        → IsGood (takes_effect c ((not (wire_of c.body k).held, 8) ∷ (is_none (end_of (wire_of c.body k) e), 10) ∷ []) (effect.Unplug k e) (with_wire c.body k (with_end (wire_of c.body k) e None)))
    unplugs_good c k e h f =
        goes c ((not (wire_of c.body k).held, 8) ∷ (is_none (end_of (wire_of c.body k) e), 10) ∷ []) (effect.Unplug k e) (with_wire c.body k (with_end (wire_of c.body k) e None)) h.todo
        (λ n.
        let a = passed (not (wire_of c.body k).held) 8 ((is_none (end_of (wire_of c.body k) e), 10) ∷ []) n in
        let d = passed (is_none (end_of (wire_of c.body k) e)) 10 [] a.1 in
        let p = there_is (end_of (wire_of c.body k) e) d.0 in
        let l = ltb-true k (length (kind_of S at.kind).channels) f in
        let g = wire_in_range c.body c.effects k h.kept l in
        adds c.body c.effects (effect.Unplug k e) (with_wire c.body k (with_end (wire_of c.body k) e None)) h.kept
        (wire_fit S c.body k (with_end (wire_of c.body k) e None) h.kept.fits (freed_fits c.body k e (wire_fits S c.body k h.kept.fits g))) (moved_takes S c.body k e None h.kept.takes g (λ p q. absurd cc)) refl refl
        (own_unplug S (acts_now c.effects) at.c at.item c.body k e g h.kept.agrees)
        (record {
          channel_is = l;
          held = h.kept.agrees.holds k g ∙ not_false (wire_of c.body k).held a.0;
          plugged = end_there S (acts_now c.effects) at.c c.body k e p.0 h.kept.agrees h.kept.fits g p.1;
        }))

    -- a plug at a place that names a port of who is there
    plug_kept : (c : Config) (k : ℕ) (e : Dir) (p : Place) → IsSound c → k < length (kind_of S at.kind).channels → is_place_in S c.body p ≡ true → place_takes S c.body (port_of_channel S c.body k) e p ≡ true → ((s : ℕ) → p.slot ≡ Some s → is_some (occupant S (acts_now c.effects) at.c s) ≡ true)
        → not (wire_of c.body k).held ≡ false → is_some (end_of (wire_of c.body k) e) ≡ false → IsKept (with_wire c.body k (with_end (wire_of c.body k) e (Some p))) (c.effects ++ effect.Plug k e p ∷ [])
    plug_kept c k e p h l fit take half a d =
        let g = wire_in_range c.body c.effects k h.kept l in
        adds c.body c.effects (effect.Plug k e p) (with_wire c.body k (with_end (wire_of c.body k) e (Some p))) h.kept
        (wire_fit S c.body k (with_end (wire_of c.body k) e (Some p)) h.kept.fits (plugged_fits c.body k e p (wire_fits S c.body k h.kept.fits g) fit)) (moved_takes S c.body k e (Some p) h.kept.takes g (λ q z. subst (λ x. place_takes S c.body (port_of_channel S c.body k) e x ≡ true) (Some-injective z) take)) refl refl
        (own_plug S (acts_now c.effects) at.c at.item c.body k e p g h.kept.agrees)
        (record {
          channel_is = l;
          held = h.kept.agrees.holds k g ∙ not_false (wire_of c.body k).held a;
          free = h.kept.agrees.ends k e g ∙ ap (option_and_then (half_of S (acts_now c.effects) at.c)) (there_is_none (end_of (wire_of c.body k) e) d);
          half = half_there S (acts_now c.effects) at.c p half;
        })

    taken_port : (b : Bool) (q port : ℕ) → (if b then Some q else None) ≡ Some port → q ≡ port
    taken_port true q port e = Some-injective e
    taken_port false q port e = absurd cc

    -- the port that a plug finds at a child is one of the child's type
    found_port : (b : Body) (k : ℕ) (e : Dir) (s : ℕ) (name : List ℕ) (child port : ℕ) → child_in b s ≡ Some child → port_for S b k e s name ≡ Some port → nat_lt port (length (kind_of S child).ports) ≡ true
    found_port b k e s name child port q h =
        let h2 = sym (ap (option_and_then (λ child. option_and_then (λ q. option_and_then (λ p. if takes_end (port_of_channel S b k) e p then Some q else None) (slice_get (kind_of S child).ports q)) (port_named (kind_of S child) name))) q) ∙ h in
        let n = bound_of (λ q. option_and_then (λ p. if takes_end (port_of_channel S b k) e p then Some q else None) (slice_get (kind_of S child).ports q)) (port_named (kind_of S child) name) port h2 in
        let m = bound_of (λ p. if takes_end (port_of_channel S b k) e p then Some n.0 else None) (slice_get (kind_of S child).ports n.0) port n.2 in
        let same = taken_port (takes_end (port_of_channel S b k) e m.0) n.0 port m.2 in
        subst (λ x. nat_lt x (length (kind_of S child).ports) ≡ true) same (lt-ltb n.0 (length (kind_of S child).ports) (slice_get_within (kind_of S child).ports n.0 m.0 m.1))
      where
        bound_of : {X Y : Type 0} (f : X → Option Y) (o : Option X) (y : Y) → option_and_then f o ≡ Some y → (x : X) × (o ≡ Some x) × (f x ≡ Some y)
        bound_of f None y e = absurd cc
        bound_of f (Some x) y e = (x, refl, e)

    bound_by : {X Y : Type 0} (f : X → Option Y) (o : Option X) (y : Y) → option_and_then f o ≡ Some y → (x : X) × (o ≡ Some x) × (f x ≡ Some y)
    bound_by f None y e = absurd cc
    bound_by f (Some x) y e = (x, refl, e)

    taken_if : (b : Bool) (q port : ℕ) → (if b then Some q else None) ≡ Some port → (b ≡ true) × (q ≡ port)
    taken_if true q port e = (refl, Some-injective e)
    taken_if false q port e = absurd cc

    -- and takes the end
    found_takes : (b : Body) (k : ℕ) (e : Dir) (s : ℕ) (name : List ℕ) (child port : ℕ) → child_in b s ≡ Some child → port_for S b k e s name ≡ Some port
        → option_map_or (takes_at (port_of_channel S b k) e true) (slice_get (kind_of S child).ports port) false ≡ true
    found_takes b k e s name child port q h =
        let h2 = sym (ap (option_and_then (λ child. option_and_then (λ q. option_and_then (λ p. if takes_end (port_of_channel S b k) e p then Some q else None) (slice_get (kind_of S child).ports q)) (port_named (kind_of S child) name))) q) ∙ h in
        let n = bound_by (λ q. option_and_then (λ p. if takes_end (port_of_channel S b k) e p then Some q else None) (slice_get (kind_of S child).ports q)) (port_named (kind_of S child) name) port h2 in
        let m = bound_by (λ p. if takes_end (port_of_channel S b k) e p then Some n.0 else None) (slice_get (kind_of S child).ports n.0) port n.2 in
        let t = taken_if (takes_end (port_of_channel S b k) e m.0) n.0 port m.2 in
        ap (λ o. option_map_or (takes_at (port_of_channel S b k) e true) o false) (ap (slice_get (kind_of S child).ports) (sym t.1) ∙ m.1) ∙ outside_takes S (port_of_channel S b k) e m.0 t.0

    own_takes : (b : Body) (k : ℕ) (e : Dir) (q : ℕ) (d : ChannelDecl) → b.kind ≡ at.kind → slice_get (kind_of S at.kind).channels k ≡ Some d → (p : PortDecl) → slice_get (kind_of S at.kind).ports q ≡ Some p → takes_at d.port e false p ≡ true
        → place_takes S b (port_of_channel S b k) e (record { slot = None; port = q }) ≡ true
    own_takes b k e q d same f p g h =
        ap (λ z. option_map_or (takes_at (option_map_or (λ c. c.port) (slice_get (kind_of S z).channels k) 0) e false) (slice_get (kind_of S z).ports q) false) same
        ∙ ap (λ o. option_map_or (takes_at (option_map_or (λ c. c.port) o 0) e false) (slice_get (kind_of S at.kind).ports q) false) f
        ∙ ap (λ o. option_map_or (takes_at d.port e false) o false) g ∙ h

    plugs_good : (c : Config) (k : ℕ) (e : Dir) (target : Target) → IsSound c → option_map_or (λ d. target_fits (kind_of S at.kind) d.port e target) (slice_get (kind_of S at.kind).channels k) false ≡ true → IsGood (plugs_at S c k e target)
    plugs_good c k e (Own q) h f =
        goes c ((not (wire_of c.body k).held, 8) ∷ (is_some (end_of (wire_of c.body k) e), 9) ∷ []) (effect.Plug k e (record { slot = None; port = q }))
        (with_wire c.body k (with_end (wire_of c.body k) e (Some (record { slot = None; port = q })))) h.todo
        (λ n.
        let a = passed (not (wire_of c.body k).held) 8 ((is_some (end_of (wire_of c.body k) e), 9) ∷ []) n in
        let d = passed (is_some (end_of (wire_of c.body k) e)) 9 [] a.1 in
        let r = some_of (λ d. target_fits (kind_of S at.kind) d.port e (Own q)) (slice_get (kind_of S at.kind).channels k) f in
        let p = some_of (takes_at r.0.port e false) (slice_get (kind_of S at.kind).ports q) r.2 in
        let low = slice_get_within (kind_of S at.kind).ports q p.0 p.1 in
        plug_kept c k e (record { slot = None; port = q }) h (slice_get_within (kind_of S at.kind).channels k r.0 r.1)
        (subst (λ z. nat_lt q (length (kind_of S z).ports) ≡ true) (sym h.kept.kind) (lt-ltb q (length (kind_of S at.kind).ports) low))
        (own_takes c.body k e q r.0 h.kept.kind r.1 p.0 p.1 p.2) (λ s z. absurd cc) a.0 d.0)
    plugs_good c k e (Child s name) h f =
        goes c ((not (wire_of c.body k).held, 8) ∷ (is_some (end_of (wire_of c.body k) e), 9) ∷ (is_none (child_in c.body s), 6) ∷ (is_none (port_for S c.body k e s name), 11) ∷ [])
        (effect.Plug k e (record { slot = Some s; port = unwrap_or (port_for S c.body k e s name) 0 }))
        (with_wire c.body k (with_end (wire_of c.body k) e (Some (record { slot = Some s; port = unwrap_or (port_for S c.body k e s name) 0 })))) h.todo
        (λ n.
        let a = passed (not (wire_of c.body k).held) 8 ((is_some (end_of (wire_of c.body k) e), 9) ∷ (is_none (child_in c.body s), 6) ∷ (is_none (port_for S c.body k e s name), 11) ∷ []) n in
        let d = passed (is_some (end_of (wire_of c.body k) e)) 9 ((is_none (child_in c.body s), 6) ∷ (is_none (port_for S c.body k e s name), 11) ∷ []) a.1 in
        let x = passed (is_none (child_in c.body s)) 6 ((is_none (port_for S c.body k e s name), 11) ∷ []) d.1 in
        let y = passed (is_none (port_for S c.body k e s name)) 11 [] x.1 in
        let child = there_is (child_in c.body s) x.0 in
        let port = there_is (port_for S c.body k e s name) y.0 in
        let r = some_of (λ d. target_fits (kind_of S at.kind) d.port e (Child s name)) (slice_get (kind_of S at.kind).channels k) f in
        let low = found_port c.body k e s name child.0 port.0 child.1 port.1 in
        plug_kept c k e (record { slot = Some s; port = unwrap_or (port_for S c.body k e s name) 0 }) h (slice_get_within (kind_of S at.kind).channels k r.0 r.1)
        (ap (λ o. option_map_or (λ z. nat_lt (unwrap_or (port_for S c.body k e s name) 0) (length (kind_of S z).ports)) o false) child.1
        ∙ ap (λ o. nat_lt (unwrap_or o 0) (length (kind_of S child.0).ports)) port.1 ∙ low)
        (ap (λ o. option_map_or (λ z. option_map_or (takes_at (port_of_channel S c.body k) e true) (slice_get (kind_of S z).ports (unwrap_or (port_for S c.body k e s name) 0)) false) o false) child.1
        ∙ ap (λ o. option_map_or (takes_at (port_of_channel S c.body k) e true) (slice_get (kind_of S child.0).ports (unwrap_or o 0)) false) port.1 ∙ found_takes c.body k e s name child.0 port.0 child.1 port.1)
        (λ t z. let same : s ≡ t = Some-injective z in subst (λ t. is_some (occupant S (acts_now c.effects) at.c t) ≡ true) same (filled_slot S (acts_now c.effects) at.c c.body s child.0 h.kept.agrees child.1))
        a.0 d.0)

    escalates_good : (b : Bool) (c : Config) → IsSound c → IsGood (if b then Running c else takes_effect c [] effect.Escalate c.body)
    unfolding model
    escalates_good true c h = h
    escalates_good false c h = quiet c [] effect.Escalate h (λ a. record { slots = a.slots; holds = a.holds; ends = a.ends }) (λ n. tt)

    -- ---- statements

    same_body : (c : Config) (body : Body) → IsSound c → BodyFits S body → EndsTake S body → body.kind ≡ c.body.kind → body.depth ≡ c.body.depth → Agrees S (acts_now c.effects) at.c body → IsSound (with_body c body)
    same_body c body h f t k d a = record { todo = h.todo; kept = record { fits = f; takes = t; kind = k ∙ h.kept.kind; depth = d ∙ h.kept.depth; agrees = a; met = h.kept.met; agreed = h.kept.agreed } }

    triggers : (port k : ℕ) (es : List Expr) (vs : List ℤ) → length vs ≡ length es → option_map_or (event_leaves S k (length es)) (slice_get (kind_of S at.kind).ports port) false ≡ true → may_leave S at.kind port (record { kind = k; values = vs }) ≡ true
    triggers port k es vs l e = ap (λ n. option_map_or (event_leaves S k n) (slice_get (kind_of S at.kind).ports port) false) l ∙ e

    answers_at : (k : ℕ) (vs : List ℤ) (n e port : ℕ) (item : Item) → length vs ≡ n → handles S item (on.Event e port) ≡ true → option_map_or (event_leaves S k n) (slice_get (kind_of S at.kind).ports port) false ≡ true → MayAnswer S at.kind (record { kind = k; values = vs }) item
    answers_at k vs n e port (Control (control.Init us)) l h f = absurd cc
    answers_at k vs n e port (Control control.Start) l h f = absurd cc
    answers_at k vs n e port (Control control.Stop) l h f = absurd cc
    answers_at k vs n e port (Control (control.Fault a b)) l h f = absurd cc
    answers_at k vs n e port (Control control.Dump) l h f = absurd cc
    answers_at k vs n e port (Control (control.Dumped a us)) l h f = absurd cc
    answers_at k vs n e port (Arrival x d m q Outside event back) l h f =
        ap (λ p. option_map_or (event_leaves S k (length vs)) (slice_get (kind_of S at.kind).ports p) false) (eqb-true q port (both _ _ h).0)
        ∙ ap (λ n. option_map_or (event_leaves S k n) (slice_get (kind_of S at.kind).ports port) false) l ∙ f
    answers_at k vs n e port (Arrival x d m q Inside event back) l h f = absurd cc

    answers : (k : ℕ) (vs : List ℤ) (n : ℕ) (o : On) → length vs ≡ n → IsFor S at.item o → answer_fits S (kind_of S at.kind) k n o ≡ true → MayAnswer S at.kind (record { kind = k; values = vs }) at.item
    answers k vs n (on.Event e port) l (inl h) f = answers_at k vs n e port at.item l h f
    answers k vs n (on.Event e port) l (inr h) f = absurd cc
    answers k vs n (on.Init names) l h f = absurd cc
    answers k vs n on.Start l h f = absurd cc
    answers k vs n on.Stop l h f = absurd cc
    answers k vs n (on.Fault a b) l h f = absurd cc
    answers k vs n (on.Dumped a) l h f = absurd cc

    subs_more : (b : Body) (x : ℕ) (t : Bool) → BodyFits S b → option_map_or (λ h. not (is_init h.on)) (handler_of (kind_of S b.kind) x) false ≡ true → list_all (λ h. option_map_or (λ y. not (is_init y.on)) (handler_of (kind_of S b.kind) h) false) (if t then b.subs else b.subs ++ x ∷ []) ≡ true
    subs_more b x true f e = f.subs
    subs_more b x false f e = all_more (λ h. option_map_or (λ y. not (is_init y.on)) (handler_of (kind_of S b.kind) h) false) b.subs x f.subs e

    statement_good : (c : Config) (s : Stmt) (f : Stmt-F Stmt) (o : On) → out-Stmt s ≡ f → IsFor S at.item o → IsFit o s → IsSound c → IsGood (statement_step (context S at.item) c s f)
    unfolding model
    statement_good c s (Let name e) o q k t h = with_value_good (value e (valuation (context S at.item) c)) (λ v. Running (with_scope c (c.scope ++ v ∷ []))) (λ v. record { todo = h.todo; kept = h.kept })
    statement_good c s (SetVar i e) o q k t h =
        with_value_good (value e (valuation (context S at.item) c)) (λ v. Running (with_body c (with_vars c.body (slice_set c.body.vars i v))))
        (λ v. same_body c (with_vars c.body (slice_set c.body.vars i v)) h (vars_fit S c.body i v h.kept.fits) (vars_take S c.body (slice_set c.body.vars i v) h.kept.takes) refl refl (record { slots = h.kept.agrees.slots; holds = h.kept.agrees.holds; ends = h.kept.agrees.ends }))
    statement_good c s (SetLocal i e) o q k t h = with_value_good (value e (valuation (context S at.item) c)) (λ v. Running (with_scope c (slice_set c.scope i v))) (λ v. record { todo = h.todo; kept = h.kept })
    statement_good c s (If e block other) o q k t h = with_value_good (value e (valuation (context S at.item) c)) (λ v. branches c (not (is_zero v)) block other) (λ v. branches_good c (not (is_zero v)) s e block other o q k t h)
    statement_good c s (While e block) o q k t h = with_value_good (value e (valuation (context S at.item) c)) (λ v. loops c (not (is_zero v)) s block) (λ v. loops_good c (not (is_zero v)) s e block o q k t h)
    statement_good c s (Trigger x es port) o q k t h =
        with_values_good (values es (valuation (context S at.item) c)) (λ vs. takes_effect c [] (effect.Trigger port (record { kind = x; values = vs })) c.body)
        (λ vs r. quiet c [] (effect.Trigger port (record { kind = x; values = vs })) h (λ a. record { slots = a.slots; holds = a.holds; ends = a.ends })
        (λ n. triggers port x es vs (as_many es (valuation (context S at.item) c) vs r) (self_fits s (Trigger x es port) o q t)))
    statement_good c s (Answer x es) o q k t h =
        with_values_good (values es (valuation (context S at.item) c)) (λ vs. takes_effect c [] (effect.Answer (record { kind = x; values = vs })) c.body)
        (λ vs r. quiet c [] (effect.Answer (record { kind = x; values = vs })) h (λ a. record { slots = a.slots; holds = a.holds; ends = a.ends })
        (λ n. answers x vs (length es) o (as_many es (valuation (context S at.item) c) vs r) k (self_fits s (Answer x es) o q t)))
    statement_good c s (Create slot x es) o q k t h =
        let f = both _ _ (self_fits s (Create slot x es) o q t) in
        let g = both _ _ f.1 in
        with_values_good (values es (valuation (context S at.item) c)) (λ vs. creates S c slot x false (Args vs))
        (λ vs r. creates_good c slot x false (Args vs) h f.0 g.0 (λ n. ap (λ m. m == arity (kind_of S x)) (as_many es (valuation (context S at.item) c) vs r) ∙ g.1))
    statement_good c s (CreateFromState slot x) o q k t h =
        let f = both _ _ (self_fits s (CreateFromState slot x) o q t) in
        let g = both _ _ f.1 in
        creates_good c slot x (not (length (state_of at.item) == count_of_vars S x)) (State (state_of at.item)) h f.0 g.0 (λ n. not_false (length (state_of at.item) == count_of_vars S x) n)
    statement_good c s (Start slot) o q k t h = told c slot o h (self_fits s (Start slot) o q t) (effect.Start slot) (λ a. record { slots = a.slots; holds = a.holds; ends = a.ends }) (λ m. m)
    statement_good c s (Stop slot) o q k t h = told c slot o h (self_fits s (Stop slot) o q t) (effect.Stop slot) (λ a. record { slots = a.slots; holds = a.holds; ends = a.ends }) (λ m. m)
    statement_good c s (Dump slot) o q k t h = told c slot o h (self_fits s (Dump slot) o q t) (effect.Dump slot) (λ a. record { slots = a.slots; holds = a.holds; ends = a.ends }) (λ m. m)
    statement_good c s (Destroy slot) o q k t h = destroys_good c slot o h (self_fits s (Destroy slot) o q t)
    statement_good c s (Hold x) o q k t h = holds_good c x h (self_fits s (Hold x) o q t)
    statement_good c s (Resume x) o q k t h = resumes_good c x h (self_fits s (Resume x) o q t)
    statement_good c s (Unplug x e) o q k t h = unplugs_good c x e h (self_fits s (Unplug x e) o q t)
    statement_good c s (Plug x e target) o q k t h = plugs_good c x e target h (self_fits s (Plug x e target) o q t)
    statement_good c s (Subscribe x) o q k t h =
        let e = subst (λ z. option_map_or (λ y. not (is_init y.on)) (handler_of (kind_of S z) x) false ≡ true) (sym h.kept.kind) (self_fits s (Subscribe x) o q t) in
        same_body c (with_subs c.body (if holds_number c.body.subs x then c.body.subs else c.body.subs ++ x ∷ [])) h
        (subs_fit S c.body (if holds_number c.body.subs x then c.body.subs else c.body.subs ++ x ∷ []) (subs_more c.body x (holds_number c.body.subs x) h.kept.fits e) h.kept.fits)
        (subs_take S c.body (if holds_number c.body.subs x then c.body.subs else c.body.subs ++ x ∷ []) h.kept.takes) refl refl
        (record { slots = h.kept.agrees.slots; holds = h.kept.agrees.holds; ends = h.kept.agrees.ends })
    statement_good c s (Unsubscribe x) o q k t h =
        same_body c (with_subs c.body (filter (λ y. not (y == x)) c.body.subs)) h
        (subs_fit S c.body (filter (λ y. not (y == x)) c.body.subs) (all_kept (λ h. option_map_or (λ y. not (is_init y.on)) (handler_of (kind_of S c.body.kind) h) false) (λ y. not (y == x)) c.body.subs h.kept.fits.subs) h.kept.fits) (subs_take S c.body (filter (λ y. not (y == x)) c.body.subs) h.kept.takes) refl refl
        (record { slots = h.kept.agrees.slots; holds = h.kept.agrees.holds; ends = h.kept.agrees.ends })
    statement_good c s (Fail n) o q k t h = tt
    statement_good c s Escalate o q k t h = escalates_good (list_any is_escalate c.effects) c h

    task_good : (c : Config) (t : Task) → IsFitTask t → IsSound c → IsGood (task_step (context S at.item) c t)
    task_good c (Do s) k h = statement_good c s (out-Stmt s) k.0 refl k.1 k.2 h
    task_good c (EndBlock n) k h = record { todo = h.todo; kept = h.kept }
    task_good c (BeginHandler ps) k h = record { todo = h.todo; kept = h.kept }

    config_good : (c : Config) (todo : List Task) → AreFit todo → IsKept c.body c.effects → IsGood (config_step (context S at.item) c todo)
    config_good c [] k h = h
    config_good c (t ∷ ts) k h = task_good (with_todo c ts) t k.0 (record { todo = k.1; kept = h })

    step_good : (p : Progress) → IsGood p → IsGood (step (context S at.item) p)
    step_good (Running c) h = config_good c c.todo h.todo h.kept
    step_good (Ended body es) h = h
    step_good (Faulted n) h = h

    pub after_good : (n : ℕ) (p : Progress) → IsGood p → IsGood (after n (context S at.item) p)
    after_good zero p h = h
    after_good (suc n) p h = after_good n (step (context S at.item) p) (step_good p h)
