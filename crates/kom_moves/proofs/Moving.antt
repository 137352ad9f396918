-- A run stands for the record with a move of time, but for who is runnable.
use Rattle.std.proofs.Common.{◌≡◌, ℕ, ◌+◌, ◌<◌, Bool, true, false, ◌||◌, ◌==◌, refl, sym, ap, ◌∙◌, List, [], ◌∷◌, ◌++◌, length, map, get_or, arith}
use Rattle.std.specs.Prelude.{IsSome}
use Rattle.std.specs.List.{sum_by}
use Rattle.std.specs.Option.{option_map}
use Rattle.std.specs.Ordering.{nat_cmp}
use Rattle.std.proofs.lemmas.Bool.{eq-eqb}
use Rattle.std.proofs.lemmas.List.{append-nil}
use Rattle.std.proofs.lemmas.List.Sums.{sum_by-cons}
use Rattle.kom_base.specs.declared.numbers.Dir.{Dir}
use Rattle.kom_base.specs.declared.numbers.EntryNo.{EntryNo}
use Rattle.kom_batches.specs.Laws.{BatchesAreAtPorts, ReleasesAreCounted}
use Rattle.kom_comps.specs.Members.{has}
use Rattle.kom_index.specs.Entries.{value_of}
use Rattle.kom_lang.specs.Declarations.{Declarations, kind_of}
use Rattle.kom_laws.proofs.TimeLaws.{outgoing_moved}
use Rattle.kom_marks.specs.Marking.{IsMarked}
use Rattle.kom_marks.specs.Settling.{IsUnsettled, UnmarkedStay}
use Rattle.kom_numbers.specs.Numbering.{out_of}
use Rattle.kom_offered.specs.Laws.{ReleasesComeIn, are_at_ports}
use Rattle.kom_record.specs.Model.{model}
use Rattle.kom_record.specs.declared.plan.Plan.{Plan}
use Rattle.kom_record.specs.declared.entry.Release.{Release}
use Rattle.kom_record.specs.declared.entry.Entry.{Entry}
use Rattle.kom_record.specs.declared.entry.Entry.TheVariants.{Moved}
use Rattle.kom_record.specs.Answers.{job_of}
use Rattle.kom_record.specs.Entries.{History, acts, acts_of}
use Rattle.kom_record.specs.Legal.{IsLegal, MayMove}
use Rattle.kom_record.specs.Queues.{Envelope, entering}
use Rattle.kom_record.specs.Ready.{directions, has_unhandled, is_busy, queued}
use Rattle.kom_record.specs.Time.{outgoing}
use Rattle.kom_refine.specs.Laws.{MovedFollows}
use Rattle.kom_refine.specs.Points.{StandsAt, start_of}
use Rattle.kom_refine.specs.States.{State}
use Rattle.kom_refine.specs.Steps.{HaveCome, with_numbers}
use Rattle.kom_state.specs.Facts.{HoldsTogether}
use Rattle.kom_state.specs.Laws.{NumbersStay}
use Rattle.kom_state.specs.Parts.{IsOf, state_of}
use Rattle.kom_times.specs.Laws.{FollowsAMoved}
use Rattle.kom_turns.specs.declared.run.Run.{Run}
use Rattle.kom_turns.specs.Runs.{AreCounted, Stands, held_of, history_of, system_of}
use Rattle.kom_wakes.specs.Laws.{BusyGoesOn, ComingsLeave, CountsGoOn, OutIsCounted, QueuedIsCounted, queue_length}
use Rattle.kom_wakes.specs.Work.{HasSameWork, IsNotReceiver}
use Rattle.kom_moves.specs.Bringing.{brought, way_in}
use Rattle.kom_moves.specs.Moved.{IsMoveNoted}
use Rattle.kom_moves.proofs.Ports.{all_at, brought_is, longer, nothing_or, others_receive_not, queue_there}

sums_add : {X : Type 0} (f g h : X → ℕ) → ((x : X) → h x ≡ f x + g x) → (xs : List X) → sum_by h xs ≡ sum_by f xs + sum_by g xs
sums_add f g h e [] = refl
sums_add f g h e (x ∷ xs) =
    let a = e x in
    let r = sums_add f g h e xs in
    let b = sum_by-cons f x xs in
    let d = sum_by-cons g x xs in
    let k = sum_by-cons h x xs in
    omega (arith, a, r, b, d, k)

long_map : {X Y : Type 0} (f : X → Y) (xs : List X) → length (map f xs) ≡ length xs
long_map f [] = refl
long_map f (x ∷ xs) = let r = long_map f xs in omega (arith, r)

or_off : (b : Bool) → (b || false) ≡ b
or_off true = refl
or_off false = refl

-- all releases that may come are at ports, whose queues are there
module _ (S : Declarations) (Z : Plan) (P : History) (v : Run) (released : List Release) where
  pub numbered : IsOf S v.state → v.state.numbers.outs ≡ map (λ p. out_of p.provided) (kind_of S S.root.kind).ports
  unfolding IsOf
  numbered h = h.outs

  pub as_many : IsOf S v.state → length v.state.numbers.outs ≡ length (kind_of S S.root.kind).ports
  as_many h = ap length (numbered h) ∙ long_map (λ p. out_of p.provided) (kind_of S S.root.kind).ports

  pub there_at : IsOf S v.state → HoldsTogether v.state → are_at_ports S released ≡ true → (i : ℕ) (r : Release) → i < length released
      → IsSome ((state_of v.state).queues (get_or released i r).chan (way_in v.state.numbers.outs (get_or released i r).chan))
  there_at h holds ported i r lt =
      let a = all_at S released ported i r lt in
      let b = as_many h in
      queue_there v.state holds (get_or released i r).chan (omega (arith, a, b))

module _ (at_ports : BatchesAreAtPorts) (counted_by : ReleasesAreCounted) (come_in : ReleasesComeIn) (moved_follows : MovedFollows) (numbers_stay : NumbersStay) (follows : FollowsAMoved)
    (unmarked_stay : UnmarkedStay) (busy_goes_on : BusyGoesOn) (comings_leave : ComingsLeave) (counts_go_on : CountsGoOn) (out_is : OutIsCounted) (queued_is : QueuedIsCounted) where
  module _ (w t : ℕ) (released : List Release) (v n : Run) (s : Stands v) (holds : HoldsTogether v.state) (may : MayMove (system_of v) v.env.plan (history_of v) t released) (noted : IsMoveNoted w t released v n) where
    abbrev S : Declarations
    S = system_of v

    abbrev Z : Plan
    Z = v.env.plan

    abbrev P : History
    P = history_of v

    abbrev m : State
    m = state_of v.state

    abbrev k : State
    k = state_of n.state

    abbrev move : Entry
    move = Moved w t released

    abbrev Q : History
    Q = move ∷ P

    abbrev came : ℕ → Dir → List EntryNo
    came = brought v.state.numbers.outs (length P) released

    legal : IsLegal S Z Q
    unfolding IsLegal
    legal = (s.legal, may)

    ported : are_at_ports S released ≡ true
    ported = ap (are_at_ports S) may.all_released ∙ at_ports S Z P t s.fits

    came_is : (x : ℕ) (d : Dir) → came x d ≡ map (λ q. q.no) (entering S P move x d)
    came_is x d = brought_is S v.state.numbers.outs (numbered S Z P v released s.numbers) (length P) x d released ported ∙ sym (come_in S P w t released x d ported)

    come : HaveCome (λ x d. map (λ q. q.no) (entering S P move x d)) m k
    come = record {
      tree = noted.state.tree;
      links = noted.state.links;
      queues = λ x d. noted.state.queues x d ∙ ap (λ ns. option_map (with_numbers ns) (m.queues x d)) (came_is x d);
      controls = noted.state.controls;
      bodies = noted.state.bodies;
    }

    stands : StandsAt S (start_of Q) k
    stands = moved_follows S Z P w t released m k legal come s.state

    -- ---- who has the same to do

    others_leave : (c : ℕ) → (c == 0) ≡ false → HasSameWork m k c
    others_leave c apart =
        comings_leave came m k c noted.state
        (λ x d. nothing_or (λ y e. IsNotReceiver c (m.queues y e)) v.state.numbers.outs (length P) x d released
        (λ i r h. others_receive_not S P m c (get_or released i r).chan (way_in v.state.numbers.outs (get_or released i r).chan) s.state (λ e. cc (apart, eq-eqb c 0 e)) (all_at S released ported i r h)))

    marked : IsMarked 1 v.marks n.marks m k
    marked = noted.marked m k others_leave

    busy_same : (c : ℕ) → is_busy S Q c ≡ is_busy S P c
    busy_same c = (busy_goes_on S P c).moved w t released

    -- ---- what is counted

    queue_more : (x : ℕ) (d : Dir) → queue_length (k.queues x d) ≡ queue_length (m.queues x d) + length (entering S P move x d)
    queue_more x d =
        ap queue_length (noted.state.queues x d)
        ∙ longer (m.queues x d) (came x d) (nothing_or (λ y e. IsSome (m.queues y e)) v.state.numbers.outs (length P) x d released (there_at S Z P v released s.numbers holds ported))
        ∙ ap (λ l. queue_length (m.queues x d) + l) (ap length (came_is x d) ∙ long_map (λ (q : Envelope). q.no) (entering S P move x d))

    queued_more : queued S Q ≡ queued S P + length released
    unfolding directions acts acts_of
    queued_more =
        let a = queued_is S Q k stands in
        let b = sums_add (λ x. queue_length (m.queues x.0 x.1)) (λ x. length (entering S P move x.0 x.1)) (λ x. queue_length (k.queues x.0 x.1)) (λ x. queue_more x.0 x.1) (directions S P) in
        let d = queued_is S P m s.state in
        let e = counted_by S P w t released ported in
        a ∙ b ∙ (λ i. sym d i + e i)

    counted : AreCounted S Z Q n.counts
    unfolding model
    counted =
        let c = counts_go_on S Z P move in
        let old = s.counts_are in
        record {
          steps = let a = c.took in let b = old.steps in let e = noted.steps in omega (arith, a, b, e);
          instants = let a = c.moved in let b = old.instants in let e = noted.instants in omega (arith, a, b, e);
          unhandled = noted.unhandled ∙ old.unhandled ∙ sym (or_off (has_unhandled S P)) ∙ sym c.unhandled;
          queued_are = noted.queued ∙ ap (λ q. q + length released) old.queued_are ∙ sym queued_more;
          out_are = noted.out ∙ old.out_are ∙ out_is S P ∙ sym (ap length (ap (λ ys. outgoing S P ++ ys) (outgoing_moved S Z P w t released) ∙ append-nil (outgoing S P))) ∙ sym (out_is S Q);
          entries = let a = c.took in let b = c.moved in let d = old.entries in omega (arith, a, b, d);
        }

    jobs_same : (q : ℕ) → job_of Q q ≡ job_of P q
    unfolding model job_of
    jobs_same q = refl

    pub unsettled : IsUnsettled S Z P move n
    unsettled = record {
      declarations = ap (λ y. y.declarations) noted.system;
      plan = ap (λ o. o.plan) noted.env;
      history = noted.history;
      fits = s.fits;
      legal = legal;
      state = stands;
      numbers = numbers_stay S v.state n.state s.numbers noted.state.tree.nodes noted.outs noted.widths;
      outside = (follows S Z P w t released v.env n.env legal s.outside noted.env).follows;
      jobs = λ q. ap (value_of nat_cmp q) noted.jobs ∙ s.jobs q ∙ ap (option_map held_of) (sym (jobs_same q));
      busy = λ c. ap (λ b. has b c) noted.busy ∙ s.busy c ∙ sym (busy_same c);
      runnable_were = λ c. ap (λ b. has b c) noted.runnable ∙ s.runnable_are c;
      others_stay = λ c h. unmarked_stay S P move 1 v.marks n.marks m k s.state stands marked (λ d e. busy_same d) c h;
      busy_bound = let a = ap length noted.state.tree.nodes in let b = ap (λ b. b.bound) noted.busy in let h = s.busy_bound in omega (arith, a, b, h);
      runnable_bound = let a = ap length noted.state.tree.nodes in let b = ap (λ b. b.bound) noted.runnable in let h = s.runnable_bound in omega (arith, a, b, h);
      marks_bound = let a = ap length noted.state.tree.nodes in let b = noted.marks_bound in let h = s.marks_bound in omega (arith, a, b, h);
      marks_within = let a = noted.marks_bound in let b = ap (λ b. b.bound) noted.runnable in let h = s.marks_within in omega (arith, a, b, h);
      counts_are = counted;
    }
