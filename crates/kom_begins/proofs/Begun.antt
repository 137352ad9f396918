-- A run that begins stands for the empty record.
use Rattle.std.proofs.Common.{◌≡◌, ℕ, suc, ◌+◌, ◌<◌, ◌≤◌, Bool, true, false, if◌then◌else◌, not, ◌&&◌, ◌||◌, ◌==◌, refl, sym, ap, ◌∙◌, subst, List, [], ◌∷◌, length, map, ◌⊎◌, inl, inr, arith}
use Rattle.std.specs.Prelude.{is_some}
use Rattle.std.specs.List.{sum_by}
use Rattle.std.specs.Ordering.{nat_cmp}
use Rattle.std.proofs.lemmas.Bool.{cases_lt, eqb-true, eq-eqb, ne_eqb}
use Rattle.std.proofs.lemmas.List.Sums.{sum_by-cons}
use Rattle.kom_base.specs.Lists.{first}
use Rattle.kom_comps.specs.Members.{Members, has}
use Rattle.kom_env.specs.Outside.{Outside}
use Rattle.kom_index.specs.Entries.{value_of}
use Rattle.kom_index.specs.Stock.{entries}
use Rattle.kom_lang.specs.Declarations.{Declarations}
use Rattle.kom_laws.proofs.InstanceLaws.{alive_born}
use Rattle.kom_record.specs.Model.{model}
use Rattle.kom_record.specs.declared.plan.Plan.{Plan}
use Rattle.kom_record.specs.Answers.{job_of}
use Rattle.kom_record.specs.Controls.{control_waiting}
use Rattle.kom_record.specs.Entries.{History, acts}
use Rattle.kom_record.specs.Instances.{alive, born}
use Rattle.kom_record.specs.Plans.{PlanFits}
use Rattle.kom_record.specs.Ready.{candidates, directions, is_active, is_busy, out, queued, runnable}
use Rattle.kom_refine.specs.Points.{StandsAt, node_of, start_of}
use Rattle.kom_refine.specs.States.{State}
use Rattle.kom_state.specs.Parts.{IsOf, Parts, state_of}
use Rattle.kom_times.specs.Following.{Follows}
use Rattle.kom_turns.specs.declared.counts.Counts.{Counts}
use Rattle.kom_turns.specs.declared.run.Run.{Run}
use Rattle.kom_system.specs.declared.system.System.{System}
use Rattle.kom_turns.specs.Runs.{AreCounted, IsRun, IsRunnableBy, StandsFor, system_of}
use Rattle.kom_begins.specs.Begun.{AreFirst, AreOpened, AreTested, IsJoined, IsOpening, IsStarted}

no_sum : {X : Type 0} (f : X → ℕ) (xs : List X) → ((x : X) → f x ≡ 0) → sum_by f xs ≡ 0
no_sum f [] h = refl
no_sum f (x ∷ xs) h = sum_by-cons f x xs ∙ (λ i. h x i + no_sum f xs h i)

either_nothing : (b : Bool) (n : ℕ) → n ≡ 0 → (if b then n else 0) ≡ 0
either_nothing true n e = e
either_nothing false n e = refl

none_queued : (S : Declarations) → queued S [] ≡ 0
unfolding model
none_queued S = no_sum _ (directions S []) (λ x. either_nothing _ _ refl)

none_out : (S : Declarations) → out S [] ≡ 0
unfolding model
none_out S = no_sum _ (directions S []) (λ x. either_nothing _ _ refl)

long_map : {X Y : Type 0} (f : X → Y) (xs : List X) → length (map f xs) ≡ length xs
long_map f [] = refl
long_map f (x ∷ xs) = ap suc (long_map f xs)

pub counted : (S : Declarations) (Z : Plan) (n : Counts) → n.steps ≡ Z.steps → n.instants ≡ Z.instants → n.unhandled ≡ false → n.queued ≡ 0 → n.out ≡ 0 → AreCounted S Z [] n
unfolding model
counted S Z n steps instants unhandled none gone = record {
  steps = omega (arith, steps);
  instants = omega (arith, instants);
  unhandled = unhandled;
  queued_are = none ∙ sym (none_queued S);
  out_are = gone ∙ sym (none_out S);
  entries = omega arith;
}

-- who was not created is not runnable
not_made : (S : Declarations) (m : State) (c : ℕ) → StandsAt S (start_of []) m → length m.nodes ≤ c → runnable S [] c ≡ false
unfolding runnable
not_made S m c s le = go (alive S (acts []) c) refl
  where
    go : (b : Bool) → alive S (acts []) c ≡ b → (alive S (acts []) c && not (is_busy S [] c) && (is_some (first (control_waiting S [] c)) || (is_active S [] c && is_some (first (candidates S [] c))))) ≡ false
    go true l = absurd (
        let made : c < length (born S (acts [])) = alive_born S (acts []) c l in
        let long : length m.nodes ≡ length (born S (acts [])) = ap length s.nodes ∙ long_map node_of (born S (acts [])) in
        omega (arith, made, long, le)
        )
    go false l = ap (λ a. a && not (is_busy S [] c) && (is_some (first (control_waiting S [] c)) || (is_active S [] c && is_some (first (candidates S [] c))))) l

none_busy : (S : Declarations) (c : ℕ) → is_busy S [] c ≡ false
unfolding model
none_busy S c = refl

module _ (S : Declarations) (Z : Plan) (v : Run) (fits : PlanFits S Z) (stands : StandsAt S (start_of []) (state_of v.state)) (numbers : IsOf S v.state) (outside : Follows S Z [] v.env)
    (jobs : entries v.jobs ≡ []) (free : (c : ℕ) → has v.busy c ≡ false) (unmarked : (c : ℕ) → has v.marks c ≡ false)
    (tested : AreTested (state_of v.state) v.busy (length (state_of v.state).nodes) v.runnable) where
  runs : (c : ℕ) → (c < length (state_of v.state).nodes) ⊎ (length (state_of v.state).nodes ≤ c) → has v.runnable c ≡ runnable S [] c
  runs c (inl lt) = tested.below c lt S [] stands (free c ∙ sym (none_busy S c))
  runs c (inr le) = tested.above c le ∙ sym (not_made S (state_of v.state) c stands le)

  pub stands_first : v.busy.bound ≡ length (state_of v.state).nodes → v.runnable.bound ≡ length (state_of v.state).nodes → v.marks.bound ≡ length (state_of v.state).nodes → AreCounted S Z [] v.counts
      → StandsFor S Z [] v
  unfolding model job_of
  stands_first busy running marks counts = record {
    fits = fits;
    legal = tt;
    state = stands;
    numbers = numbers;
    outside = outside;
    jobs = λ w. ap (value_of nat_cmp w) jobs;
    busy = λ c. free c;
    runnable_are = λ c. runs c (cases_lt c (length (state_of v.state).nodes));
    unmarked = unmarked;
    busy_bound = omega (arith, busy);
    runnable_bound = omega (arith, running);
    marks_bound = omega (arith, marks);
    marks_within = omega (arith, marks, running);
    counts_are = counts;
  }

-- one component more is tested
pub tested_on : (m : State) (busy old new : Members) (c : ℕ) (b : Bool) → AreTested m busy c old → IsRunnableBy m busy c b → ((d : ℕ) → has new d ≡ (if d == c then b else has old d)) → AreTested m busy (c + 1) new
tested_on m busy old new c b t this each = record {
  below = λ d lt. go d lt (d == c) refl;
  above = λ d le. each d ∙ ap (λ s. if s then b else has old d) (ne_eqb d c (λ s. absurd (omega (arith, s, le)))) ∙ t.above d (omega (arith, le));
}
  where
    go : (d : ℕ) → d < c + 1 → (s : Bool) → (d == c) ≡ s → IsRunnableBy m busy d (has new d)
    go d lt true e =
        let same : d ≡ c = eqb-true d c e in
        subst (IsRunnableBy m busy d) (sym (each d ∙ ap (λ s. if s then b else has old d) e)) (subst (λ k. IsRunnableBy m busy k b) (sym same) this)
    go d lt false e =
        let n : (d ≡ c → ⊥) = λ s. cc (e, eq-eqb d c s) in
        subst (IsRunnableBy m busy d) (sym (each d ∙ ap (λ s. if s then b else has old d) e)) (t.below d (omega (arith, lt, n)))

pub first_counts : (S : Declarations) (Z : Plan) (n : Counts) → AreFirst Z n → AreCounted S Z [] n
first_counts S Z n f = counted S Z n f.steps f.instants f.unhandled f.queued f.out

-- the parts of a run that begins make one that stands for the empty record
pub begun : (S : Declarations) (Z : Plan) (v : Run) → PlanFits S Z → IsStarted S v.state → Follows S Z [] v.env → entries v.jobs ≡ [] → AreOpened v.state v.busy v.runnable v.marks → AreFirst Z v.counts → StandsFor S Z [] v
unfolding IsStarted
begun S Z v fits started outside jobs o f =
    stands_first S Z v fits started.0 started.1 outside jobs o.free o.unmarked o.tested o.busy_bound o.runnable_bound o.marks_bound (first_counts S Z v.counts f)

-- what was joined is what a run begins with
same_opening : (S : Declarations) (Z : Plan) (system : System) (state : Parts) (env : Outside) (busy runnable marks : Members) (n : Counts) (v : Run) → IsOpening S Z state env busy runnable marks n → IsJoined system state env busy runnable marks n v
    → IsOpening S Z v.state v.env v.busy v.runnable v.marks v.counts
same_opening S Z system state env busy runnable marks n v o j =
    subst (λ (q : Parts × Outside × Members × Members × Members × Counts). IsOpening S Z q.0 q.1 q.2 q.3 q.4 q.5)
    (λ i. (sym j.state_is i, sym j.env_is i, sym j.busy_is i, sym j.runnable_is i, sym j.marks_is i, sym j.counts_is i)) o

pub run_begun : (Z : Plan) (system : System) (state : Parts) (env : Outside) (busy runnable marks : Members) (n : Counts) (v : Run)
    → PlanFits system.declarations Z → IsOpening system.declarations Z state env busy runnable marks n → IsJoined system state env busy runnable marks n v → IsRun v
run_begun Z system state env busy runnable marks n v fits o j =
    let a = same_opening system.declarations Z system state env busy runnable marks n v o j in
    let s = begun system.declarations Z v fits a.started a.follows j.jobs a.opened a.counts_are in
    let declared : system_of v ≡ system.declarations = ap (λ s. s.declarations) j.system_is in
    ∣ subst (λ (q : Declarations × Plan × History). StandsFor q.0 q.1 q.2 v) (λ i. (sym declared i, sym a.plan_is i, sym j.history i)) s ∣₁
