-- What is read off a run that stands for its record.
use Rattle.std.proofs.Common.{◌≡◌, ℕ, suc, zero, ◌+◌, ◌^◌, ◌<◌, ◌≤◌, Bool, true, false, if◌then◌else◌, ◌||◌, ◌==◌, refl, sym, ap, ◌∙◌, subst, List, [], ◌∷◌, ◌++◌, length, map, Some, None, arith}
use Rattle.std.specs.Prelude.{nat_le, nat_lt, slice_get}
use Rattle.std.specs.List.{count_by, filter_map}
use Rattle.std.specs.Option.{option_map, option_and_then}
use Rattle.std.specs.Ordering.{nat_cmp}
use Rattle.std.proofs.Math.Logic.{∥∥₁_elim}
use Rattle.std.proofs.Math.Bool.{Bool-set}
use Rattle.std.proofs.lemmas.Bool.{ltb-true, lt-ltb, leb-true, le-leb, lt-leb, eqb-true, eq-eqb, ne_eqb, and_parts, or_parts}
use Rattle.std.proofs.lemmas.List.{append-nil}
use Rattle.kom_base.specs.Lists.{either, first, least}
use Rattle.kom_base.specs.Numbers.{is_earlier}
use Rattle.kom_record.specs.declared.item.Control.{Control as ControlItem}
use Rattle.kom_record.specs.declared.item.Item.TheVariants.{Control}
use Rattle.kom_lang.specs.Declarations.{Declarations}
use Rattle.kom_lang.specs.Bodies.{first_body}
use Rattle.kom_lang.specs.declared.body.Body.{Body}
use Rattle.kom_record.specs.declared.plan.Plan.{Plan}
use Rattle.kom_record.specs.Entries.{History, acts}
use Rattle.kom_record.specs.Instances.{alive, born}
use Rattle.kom_record.specs.Bodies.{body_at, body_after_all, outcome_of, catches}
use Rattle.kom_record.specs.Controls.{control_waiting}
use Rattle.kom_record.specs.Plans.{PlanFits}
use Rattle.kom_record.specs.Ready.{candidates, next, has_unhandled, is_closed, is_moved, is_took, runnable}
use Rattle.kom_laws.proofs.InstanceLaws.{alive_born}
use Rattle.kom_laws.proofs.ListFacts.{got_at}
use Rattle.kom_refine.specs.Points.{StandsAt, start_of, node_of}
use Rattle.kom_refine.specs.States.{State}
use Rattle.kom_state.specs.Readings.{first_item}
use Rattle.kom_index.specs.Entries.{value_of}
use Rattle.kom_state.specs.Parts.{IsOf, state_of}
use Rattle.kom_times.specs.Following.{Follows}
use Rattle.kom_comps.specs.Members.{has}
use Rattle.kom_turns.specs.declared.counts.Counts.{Counts}
use Rattle.kom_turns.specs.declared.run.Run.{Run}
use Rattle.kom_turns.specs.Runs.{AreCounted, IsButForRoom, Stands, StandsFor, history_of, system_of}

-- what a test says, where what a run stands for is known
pub said : {A : Type 0} (b : Bool) → ∥ A ∥₁ → (A → b ≡ true) → b ≡ true
said b s f = ∥∥₁_elim s (Bool-set b true) f

pub same_test : {A : Type 0} (a b : Bool) → ∥ A ∥₁ → (A → a ≡ b) → a ≡ b
same_test a b s f = ∥∥₁_elim s (Bool-set a b) f

pub below : {A : Type 0} (m n : ℕ) → ∥ A ∥₁ → (A → m < n) → m < n
below m n s f = ltb-true m n (said (nat_lt m n) s (λ x. lt-ltb m n (f x)))

pub at_most : {A : Type 0} (m n : ℕ) → ∥ A ∥₁ → (A → m ≤ n) → m ≤ n
at_most m n s f = leb-true m n (said (nat_le m n) s (λ x. le-leb m n (f x)))

pub same_number : {A : Type 0} (m n : ℕ) → ∥ A ∥₁ → (A → m ≡ n) → m ≡ n
same_number m n s f = eqb-true m n (said (m == n) s (λ x. eq-eqb m n (f x)))

-- ---- the counts

used_up : (a k z : ℕ) → a + k ≡ z → nat_le z a ≡ (k == 0)
used_up a zero z e = le-leb z a (omega (arith, e)) ∙ sym (eq-eqb 0 0 refl)
used_up a (suc k) z e = lt-leb z a (omega (arith, e)) ∙ sym (ne_eqb (suc k) 0 (λ s. omega (arith, s)))

pub closed_is : (S : Declarations) (Z : Plan) (R : History) (n : Counts) → AreCounted S Z R n → (n.unhandled || n.steps == 0 || n.instants == 0) ≡ is_closed S Z R
unfolding is_closed
closed_is S Z R n a =
    ap (λ b. b || n.steps == 0 || n.instants == 0) a.unhandled
    ∙ ap (λ b. has_unhandled S R || b || n.instants == 0) (sym (used_up (count_by is_took R) n.steps Z.steps a.steps))
    ∙ ap (λ b. has_unhandled S R || nat_le Z.steps (count_by is_took R) || b) (sym (used_up (count_by is_moved R) n.instants Z.instants a.instants))

-- a run that is not closed has a step left
pub step_left : (S : Declarations) (Z : Plan) (R : History) (n : Counts) → AreCounted S Z R n → is_closed S Z R ≡ false → 1 ≤ n.steps
step_left S Z R n a still = go n.steps (or_parts n.unhandled (n.steps == 0) (or_parts (n.unhandled || n.steps == 0) (n.instants == 0) (closed_is S Z R n a ∙ still)).0).1
  where
    go : (k : ℕ) → (k == 0) ≡ false → 1 ≤ k
    go zero e = absurd (let f : (0 == 0) ≡ true = eq-eqb 0 0 refl in cc)
    go (suc k) e = omega arith

-- a record is short
pub few : (S : Declarations) (Z : Plan) (R : History) (n : Counts) → PlanFits S Z → AreCounted S Z R n → length R < 2 ^ 32
few S Z R n f a =
    let e = a.entries in
    let s = a.steps in
    let i = a.instants in
    let p = f.steps in
    let q = f.instants in
    omega arith

-- ---- a living component

module _ (S : Declarations) (P : History) (m : State) (s : StandsAt S (start_of P) m) (c : ℕ) where
  pub runs_alive : runnable S P c ≡ true → alive S (acts P) c ≡ true
  unfolding runnable
  runs_alive r = (and_parts _ _ (and_parts _ _ r).0).0

  pub is_made : alive S (acts P) c ≡ true → c < length m.nodes
  is_made l =
      let made : c < length (born S (acts P)) = alive_born S (acts P) c l in
      let long : length m.nodes ≡ length (born S (acts P)) = ap length s.nodes ∙ long_map (born S (acts P)) in
      omega (arith, made, long)
    where
      long_map : (xs : List _) → length (map node_of xs) ≡ length xs
      long_map [] = refl
      long_map (x ∷ xs) = ap suc (long_map xs)

  pub body_there : alive S (acts P) c ≡ true → (b : Body) × (body_at S P c ≡ Some b)
  unfolding body_at
  body_there l =
      let g = got_at (born S (acts P)) c (alive_born S (acts P) c l) in
      (body_after_all (first_body S g.0.kind g.0.birth (1 + length g.0.ancestry)) (filter_map (outcome_of c) P), ap (option_map (λ i. body_after_all (first_body S i.kind i.birth (1 + length i.ancestry)) (filter_map (outcome_of c) P))) g.1)

  pub body_is : alive S (acts P) c ≡ true → m.bodies c ≡ body_at S P c
  unfolding body_at
  body_is l = s.bodies c ∙ ap (λ t. if t then option_map (λ i. body_after_all (first_body S i.kind i.birth (1 + length i.ancestry)) (filter_map (outcome_of c) P)) (slice_get (born S (acts P)) c) else None) l

  pub first_item_is : alive S (acts P) c ≡ true → first_item m c ≡ first (control_waiting S P c)
  unfolding body_at
  first_item_is l =
      let b = body_there l in
      ap (option_and_then (λ r. first r.items)) (s.controls c ∙ ap (λ t. option_map (λ b. record { items = control_waiting S P c ++ []; active = b.active; catches = catches S b }) (if t then body_at S P c else None)) l
      ∙ ap (option_map (λ b. record { items = control_waiting S P c ++ []; active = b.active; catches = catches S b })) b.1)
      ∙ ap first (append-nil (control_waiting S P c))

  pub next_control : (k : ControlItem) → runnable S P c ≡ true → first_item m c ≡ Some k → next S P c ≡ Some (Control k)
  unfolding next
  next_control k r e = ap (λ o. either (option_map Control o) (option_map (λ a. a.item) (least (λ a b. is_earlier a.no b.no) (candidates S P c)))) (sym (first_item_is (runs_alive r)) ∙ e)

-- ---- the same run with more room

pub moved : (S T : Declarations) (Z Y : Plan) (R Q : History) (n : Run) → S ≡ T → Z ≡ Y → R ≡ Q → StandsFor S Z R n → StandsFor T Y Q n
moved S T Z Y R Q n a b c s = subst (λ (q : Declarations × Plan × History). StandsFor q.0 q.1 q.2 n) (λ k. (a k, b k, c k)) s

pub same_stands : (v n : Run) → IsButForRoom v n → Stands v → Stands n
same_stands v n e s =
    moved (system_of v) (system_of n) v.env.plan n.env.plan (history_of v) (history_of n) n
    (sym (ap (λ y. y.declarations) e.system)) (sym (ap (λ o. o.plan) e.env)) (sym e.history)
    (record {
      fits = s.fits;
      legal = s.legal;
      state = subst (λ x. StandsAt (system_of v) (start_of (history_of v)) (state_of x)) (sym e.state) s.state;
      numbers = subst (λ x. IsOf (system_of v) x) (sym e.state) s.numbers;
      outside = subst (λ o. Follows (system_of v) v.env.plan (history_of v) o) (sym e.env) s.outside;
      jobs = λ w. ap (value_of nat_cmp w) e.jobs ∙ s.jobs w;
      busy = λ c. ap (λ m. has m c) e.busy ∙ s.busy c;
      runnable_are = λ c. ap (λ m. has m c) e.runnable ∙ s.runnable_are c;
      unmarked = λ c. ap (λ m. has m c) e.marks ∙ s.unmarked c;
      busy_bound = let a = ap (λ x. length (state_of x).nodes) e.state in let b = ap (λ m. m.bound) e.busy in let h = s.busy_bound in omega (arith, a, b, h);
      runnable_bound = let a = ap (λ x. length (state_of x).nodes) e.state in let b = ap (λ m. m.bound) e.runnable in let h = s.runnable_bound in omega (arith, a, b, h);
      marks_bound = let a = ap (λ x. length (state_of x).nodes) e.state in let b = ap (λ m. m.bound) e.marks in let h = s.marks_bound in omega (arith, a, b, h);
      marks_within = let a = ap (λ m. m.bound) e.marks in let b = ap (λ m. m.bound) e.runnable in let h = s.marks_within in omega (arith, a, b, h);
      counts_are = subst (λ k. AreCounted (system_of v) v.env.plan (history_of v) k) (sym e.counts) s.counts_are;
    })
