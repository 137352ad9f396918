-- What is known of a run in which the time may move, and of one with more room.
use Rattle.std.proofs.Common.{◌≡◌, ℕ, zero, suc, ◌+◌, ◌<◌, ◌≤◌, true, false, not, ◌||◌, ◌==◌, refl, sym, ap, ◌∙◌, subst, List, [], ◌∷◌, ◌++◌, length, map, Some, arith}
use Rattle.std.specs.Prelude.{IsSome, is_some, unwrap_or}
use Rattle.std.specs.Coded.{coded_list, coded_option, coded_ℕ}
use Rattle.std.proofs.Math.Logic.{∥∥₁_elim}
use base.Stored.{Coded-set}
use Rattle.std.specs.Option.{option_map}
use Rattle.std.proofs.lemmas.Bool.{eq-eqb, or_parts}
use Rattle.std.proofs.lemmas.List.{append-nil, length-append}
use Rattle.kom_base.specs.declared.numbers.Dir.{Dir}
use Rattle.kom_base.specs.declared.numbers.EntryNo.{EntryNo}
use Rattle.kom_base.specs.Lists.{first}
use Rattle.kom_env.specs.Outside.{batch_of, due_of, moved_on, next_time}
use Rattle.kom_faults.specs.Faulted.{IsButForRooms}
use Rattle.kom_lang.specs.Declarations.{Declarations}
use Rattle.kom_laws.proofs.InstanceLaws.{born_grows, created_first}
use Rattle.kom_marks.specs.Marking.{MarksOne}
use Rattle.kom_record.specs.Model.{model}
use Rattle.kom_record.specs.declared.plan.Plan.{Plan}
use Rattle.kom_record.specs.declared.entry.Release.{Release}
use Rattle.kom_record.specs.declared.entry.Entry.TheVariants.{Moved}
use Rattle.kom_record.specs.contracts.entry.Release.{the_row}
use Rattle.kom_record.specs.Entries.{History, acts}
use Rattle.kom_record.specs.Instances.{born, depth_limit}
use Rattle.kom_record.specs.Legal.{MayMove}
use Rattle.kom_record.specs.Ready.{is_closed}
use Rattle.kom_record.specs.Time.{batch, due}
use Rattle.kom_refine.specs.Points.{StandsAt, node_of, start_of}
use Rattle.kom_refine.specs.States.{State}
use Rattle.kom_refine.specs.Steps.{HaveCome, with_numbers}
use Rattle.kom_state.specs.Parts.{state_of}
use Rattle.kom_state.specs.Rooms.{IsSame}
use Rattle.kom_times.specs.Following.{IsButForRoom}
use Rattle.kom_times.specs.Laws.{TellsWhatIsPending}
use Rattle.kom_turns.specs.declared.counts.Counts.{Counts}
use Rattle.kom_turns.specs.declared.run.Run.{Run}
use Rattle.kom_turns.specs.declared.lefts.Left.TheVariants.{Pending}
use Rattle.kom_turns.specs.Lefts.{AnswersLeft}
use Rattle.kom_turns.specs.Runs.{AreCounted, IsRun, Stands, history_of, system_of}
use Rattle.kom_turns.proofs.Standing.{closed_is}
use Rattle.kom_moves.specs.Bringing.{brought, way_in}
use Rattle.kom_moves.specs.Moved.{IsMoveNoted}

-- ---- the root was created

first_there : {X : Type 0} (xs : List X) (x : X) → first xs ≡ Some x → 0 < length xs
first_there [] x e = absurd cc
first_there (y ∷ xs) x e = omega arith

long_map : {X Y : Type 0} (f : X → Y) (xs : List X) → length (map f xs) ≡ length xs
long_map f [] = refl
long_map f (x ∷ xs) = let r = long_map f xs in omega (arith, r)

root_born : (S : Declarations) → 0 < length (born S [])
unfolding model
root_born S = first_there (born S []) _ (created_first S 0 depth_limit _)

pub root_made : (S : Declarations) (P : History) (m : State) → StandsAt S (start_of P) m → 0 < length m.nodes
root_made S P m s =
    let g = born_grows S (acts P) [] in
    let whole : born S (acts P) ≡ born S [] ++ g.0 = ap (born S) (sym (append-nil (acts P))) ∙ g.1 in
    let a = ap length whole in
    let b = length-append (born S []) g.0 in
    let d = ap length s.nodes in
    let e = long_map node_of (born S (acts P)) in
    let h = root_born S in
    omega (arith, a, b, d, e, h)

-- a run that is not closed may move once more
pub instant_left : (S : Declarations) (Z : Plan) (R : History) (n : Counts) → AreCounted S Z R n → is_closed S Z R ≡ false → 1 ≤ n.instants
instant_left S Z R n a still = go n.instants (or_parts (n.unhandled || n.steps == 0) (n.instants == 0) (closed_is S Z R n a ∙ still)).1
  where
    go : (k : ℕ) → (k == 0) ≡ false → 1 ≤ k
    go zero e = absurd (let f : (0 == 0) ≡ true = eq-eqb 0 0 refl in cc)
    go (suc k) e = omega arith

-- ---- what the environment tells

module _ (tells : TellsWhatIsPending) (v : Run) (s : Stands v) where
  pub is_pending : is_some (due (system_of v) v.env.plan (history_of v)) ≡ true → IsSome (due_of v.env)
  is_pending h = ap is_some (tells (system_of v) v.env.plan (history_of v) v.env s.legal s.outside).due ∙ h

  pub due_is : (t : ℕ) → due_of v.env ≡ Some t → due (system_of v) v.env.plan (history_of v) ≡ Some t
  due_is t e = sym (tells (system_of v) v.env.plan (history_of v) v.env s.legal s.outside).due ∙ e

  pub batch_is : (t : ℕ) (released : List Release) → due_of v.env ≡ Some t → released ≡ batch_of v.env (next_time v.env) → released ≡ batch (system_of v) v.env.plan (history_of v) t
  batch_is t released e r =
      r ∙ ap (batch_of v.env) (ap (λ o. unwrap_or o 0) e) ∙ (tells (system_of v) v.env.plan (history_of v) v.env s.legal s.outside).batch t

-- ---- more room

came_before : (came : ℕ → Dir → List EntryNo) (m k n : State) → IsSame m k → HaveCome came k n → HaveCome came m n
came_before came m k n e a = record {
  tree = record { nodes = a.tree.nodes ∙ e.tree.nodes; living = λ c. a.tree.living c ∙ e.tree.living c; child = λ c s. a.tree.child c s ∙ e.tree.child c s };
  links = λ x. a.links x ∙ e.links x;
  queues = λ x d. a.queues x d ∙ ap (option_map (with_numbers (came x d))) (e.queues x d);
  controls = λ c. a.controls c ∙ e.controls c;
  bodies = λ c. a.bodies c ∙ e.bodies c;
}

-- the move is noted of the run before there was more room
pub noted_before : (w t : ℕ) (released : List Release) (v k n : Run) → IsButForRooms v k → IsMoveNoted w t released k n → IsMoveNoted w t released v n
noted_before w t released v k n e a = record {
  system = a.system ∙ e.system;
  history = a.history ∙ ap (λ R. Moved w t released ∷ R) e.history;
  state = subst (λ (q : List Dir × ℕ). HaveCome (brought q.0 q.1 released) (state_of v.state) (state_of n.state)) (λ i. (e.room.outs i, length (e.history i)))
      (came_before (brought k.state.numbers.outs (length (history_of k)) released) (state_of v.state) (state_of k.state) (state_of n.state) e.state a.state);
  outs = a.outs ∙ e.room.outs;
  widths = a.widths ∙ e.room.counts;
  env = subst (λ o. IsButForRoom (moved_on o) n.env) e.env a.env;
  jobs = a.jobs ∙ e.jobs;
  busy = a.busy ∙ e.busy;
  runnable = a.runnable ∙ e.runnable;
  marked = subst (λ b. MarksOne 0 b n.marks) e.marks a.marked;
  few = let f = a.few in let b = ap (λ s. length s.list) e.marks in omega (arith, f, b);
  marks_bound = a.marks_bound ∙ ap (λ s. s.bound) e.marks;
  steps = a.steps ∙ ap (λ k. k.steps) e.counts;
  instants = a.instants ∙ ap (λ k. k.instants) e.counts;
  unhandled = a.unhandled ∙ ap (λ k. k.unhandled) e.counts;
  queued = a.queued ∙ ap (λ k. k.queued + length released) e.counts;
  out = a.out ∙ ap (λ k. k.out) e.counts;
}

-- ---- what is asked before a move is noted

pub may_move : TellsWhatIsPending → (v : Run) (t : ℕ) (released : List Release) → IsRun v → AnswersLeft (system_of v) v.env.plan (history_of v) Pending → due_of v.env ≡ Some t → released ≡ batch_of v.env (next_time v.env)
    → MayMove (system_of v) v.env.plan (history_of v) t released
may_move tells v t released run left e r = record {
  not_closed = ap not left.0;
  no_job = left.2;
  none_ready = left.1;
  due = ∥∥₁_elim run (Coded-set (coded_option coded_ℕ) _ _) (λ s. due_is tells v s t e);
  all_released = ∥∥₁_elim run (Coded-set (coded_list the_row.coded) _ _) (λ s. batch_is tells v s t released e r);
}

pub there_still : (v k : Run) (x : ℕ) → IsButForRooms v k → IsSome ((state_of v.state).queues x (way_in v.state.numbers.outs x)) → IsSome ((state_of k.state).queues x (way_in k.state.numbers.outs x))
there_still v k x e h =
    subst (λ o. IsSome ((state_of k.state).queues x (way_in o x))) (sym e.room.outs)
    (subst IsSome (sym (e.state.queues x (way_in v.state.numbers.outs x))) h)
