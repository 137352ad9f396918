-- A run stands for the record with a fault.
use Rattle.std.proofs.Common.{◌≡◌, ℕ, Bool, true, false, if◌then◌else◌, ◌||◌, ◌==◌, refl, sym, ap, ◌∙◌, subst, List, [], ◌∷◌, length, Option, Some, None, arith}
use Rattle.std.specs.Prelude.{is_none}
use Rattle.std.specs.List.{sum_by}
use Rattle.std.specs.Option.{option_map}
use Rattle.std.specs.Ordering.{nat_cmp, is_eq}
use Rattle.std.proofs.lemmas.Bool.{eqb-true}
use Rattle.std.proofs.lemmas.List.{append-nil}
use Rattle.kom_base.specs.declared.numbers.Dir.{Dir}
use Rattle.kom_comps.specs.Members.{has}
use Rattle.kom_index.specs.Entries.{value_of}
use Rattle.kom_index.specs.Stock.{entries}
use Rattle.kom_lang.specs.Declarations.{Declarations}
use Rattle.kom_lang.specs.declared.body.Body.{Body}
use Rattle.kom_record.specs.Model.{model}
use Rattle.kom_record.specs.declared.plan.Plan.{Plan}
use Rattle.kom_record.specs.declared.entry.Outcome.{Outcome}
use Rattle.kom_record.specs.declared.entry.Outcome.TheVariants as outcome
use Rattle.kom_record.specs.declared.entry.Entry.{Entry}
use Rattle.kom_record.specs.declared.entry.Entry.TheVariants.{Did}
use Rattle.kom_record.specs.Answers.{did, job_of, recorded}
use Rattle.kom_record.specs.Bodies.{body_at, nearest}
use Rattle.kom_record.specs.Entries.{History, TakenJob, acts, in_hand}
use Rattle.kom_record.specs.Instances.{alive}
use Rattle.kom_record.specs.Legal.{IsLegal, MayDo, MayEnd}
use Rattle.kom_record.specs.Reaction.{Reacts}
use Rattle.kom_record.specs.Ready.{directions, has_unhandled, is_busy}
use Rattle.kom_record.specs.Time.{outgoing}
use Rattle.kom_laws.proofs.Handlings.{found_in}
use Rattle.kom_laws.proofs.Members.{IsIn}
use Rattle.kom_refine.specs.Laws.{FaultFollows}
use Rattle.kom_refine.specs.Points.{StandsAt, start_of}
use Rattle.kom_state.specs.Laws.{NumbersStay}
use Rattle.kom_state.specs.Parts.{IsOf, state_of}
use Rattle.kom_times.specs.Following.{Follows}
use Rattle.kom_times.specs.Laws.{FollowsADid}
use Rattle.kom_wakes.specs.Laws.{BusyGoesOn, CountsGoOn, OutIsCounted, QueuedIsCounted, queue_length}
use Rattle.kom_marks.specs.Settling.{IsUnsettled, UnmarkedStay}
use Rattle.kom_puts.specs.Laws.{FaultsArePut}
use Rattle.kom_turns.specs.declared.run.Run.{Run}
use Rattle.kom_turns.specs.Runs.{AreCounted, Stands, history_of, system_of}
use Rattle.kom_endings.specs.Ended.{IsJobEnded}
use Rattle.kom_endings.proofs.Hands.{by_took, one_less_job}
use Rattle.kom_endings.proofs.Dids.{jobs_after, no_more_busy}
use Rattle.kom_faults.specs.Faulted.{IsFaultNoted}

-- whom the entry tells
abbrev pub who : Option (ℕ × ℕ) → Option ℕ
who told = option_map (λ q. q.0) told

pub ended_as : (n u : Run) (w c number : ℕ) (told : Option (ℕ × ℕ)) (took t : ℕ) (to : Option ℕ) (places : List ℕ) → t ≡ took → to ≡ who told → places ≡ []
    → IsJobEnded w c (Did w c t (outcome.Fault number) to places) n u → IsJobEnded w c (Did w c took (outcome.Fault number) (who told) []) n u
ended_as n u w c number told took t to places a b d e = subst (λ (q : ℕ × Option ℕ × List ℕ). IsJobEnded w c (Did w c q.0 (outcome.Fault number) q.1 q.2) n u) (λ i. (a i, b i, d i)) e

-- the Did is the one that ends the job
pub fault_added : (S : Declarations) (R : History) (w c number : ℕ) (told : Option (ℕ × ℕ)) (hand : TakenJob) (o : Outcome)
    → alive S (acts R) c ≡ true → o ≡ outcome.Fault number → told ≡ nearest S R c → hand.w ≡ w → hand.c ≡ c
    → Did w c hand.took (outcome.Fault number) (who told) [] ∷ R ≡ did S R hand (recorded (alive S (acts R) c) o) ∷ R
unfolding did model
fault_added S R w c number told hand o lives is e a b =
    ap (λ t. Did w c hand.took (outcome.Fault number) (who t) [] ∷ R) e
    ∙ (λ i. Did (sym a i) (sym b i) hand.took (outcome.Fault number) (who (nearest S R (sym b i))) [] ∷ R)
    ∙ sym (ap (λ t. did S R hand (recorded t o) ∷ R) lives ∙ ap (λ o. did S R hand o ∷ R) is)

module _ (fault_follows : FaultFollows) (put_is : FaultsArePut) (numbers_stay : NumbersStay) (follows : FollowsADid) (busy_goes_on : BusyGoesOn) (counts_go_on : CountsGoOn) (out_is : OutIsCounted)
    (queued_is : QueuedIsCounted) (unmarked_stay : UnmarkedStay) where
  module _ (v n : Run) (w c number : ℕ) (told : Option (ℕ × ℕ)) (hand : TakenJob) (body : Body) (s : Stands v) (found : job_of (history_of v) w ≡ Some hand) (own : hand.c ≡ c)
      (body_is : body_at (system_of v) (history_of v) c ≡ Some body) (lives : alive (system_of v) (acts (history_of v)) c ≡ true) (reacts : Reacts (system_of v) body hand.item (outcome.Fault number))
      (told_is : told ≡ nearest (system_of v) (history_of v) c) (noted : IsFaultNoted c number told v n) where
    abbrev S : Declarations
    S = system_of v

    abbrev Z : Plan
    Z = v.env.plan

    abbrev P : History
    P = history_of v

    abbrev pub the_did : Entry
    the_did = Did w c hand.took (outcome.Fault number) (who told) []

    abbrev Q : History
    Q = the_did ∷ P

    held : IsIn hand (in_hand P) × (hand.w == w) ≡ true
    unfolding job_of
    held = found_in (λ j. j.w == w) (in_hand P) hand found

    may : MayDo S Z P w c hand.took (outcome.Fault number) (who told) []
    unfolding model job_of
    may = record {
      job = hand;
      body = body;
      in_hand = by_took P w hand found;
      worker = eqb-true hand.w w held.1;
      component = own;
      body_is = body_is;
      outcome = subst (λ t. MayEnd S Z t body hand.item (outcome.Fault number)) (sym lives) reacts;
      told = ap who told_is;
      unreached = refl;
    }

    pub legal : IsLegal S Z Q
    unfolding IsLegal
    legal = (s.legal, may)

    stands : StandsAt S (start_of Q) (state_of n.state)
    stands = fault_follows S Z P w c hand.took number (who told) [] (state_of v.state) noted.between (state_of n.state) legal
        (put_is S P w c hand.took number (who told) [] told (state_of v.state) noted.between told_is noted.put) noted.ended s.state

    nodes_same : (state_of n.state).nodes ≡ (state_of v.state).nodes
    nodes_same = noted.ended.tree.nodes ∙ noted.put.tree.nodes

    numbers : IsOf S n.state
    numbers = numbers_stay S v.state n.state s.numbers nodes_same noted.outs noted.widths

    queued_same : sum_by (λ x. queue_length ((state_of v.state).queues x.0 x.1)) (directions S P) ≡ sum_by (λ x. queue_length ((state_of n.state).queues x.0 x.1)) (directions S Q)
    unfolding model
    queued_same =
        let f : ◌≡◌ {A = ℕ × Dir → ℕ} (λ x. queue_length ((state_of v.state).queues x.0 x.1)) (λ x. queue_length ((state_of n.state).queues x.0 x.1)) =
        λ i x. sym (ap queue_length (noted.ended.queues x.0 x.1 ∙ noted.put.queues x.0 x.1)) i
        in
        ap (λ f. sum_by f (directions S P)) f

    pub counted : AreCounted S Z Q n.counts
    unfolding model
    counted =
        let k = counts_go_on S Z P the_did in
        let old = s.counts_are in
        record {
          steps = let a = k.took in let b = old.steps in let e = noted.steps in omega (arith, a, b, e);
          instants = let a = k.moved in let b = old.instants in let e = noted.instants in omega (arith, a, b, e);
          unhandled = noted.unhandled ∙ ap (λ b. b || is_none told) old.unhandled ∙ ap (λ o. has_unhandled S P || is_none o) told_is ∙ sym k.unhandled;
          queued_are = noted.queued ∙ old.queued_are ∙ queued_is S P (state_of v.state) s.state ∙ queued_same ∙ sym (queued_is S Q (state_of n.state) stands);
          out_are = noted.out ∙ old.out_are ∙ out_is S P ∙ sym (ap length (append-nil (outgoing S P))) ∙ sym (out_is S Q);
          entries = let a = k.took in let b = k.moved in let d = old.entries in let e = one_less_job P w c hand (outcome.Fault number) (who told) [] found in omega (arith, a, b, d, e);
        }

    outside : Follows S Z Q v.env
    unfolding model
    outside = let f = follows S Z P in f.2 w c hand.took (outcome.Fault number) (who told) [] v.env (f.0 v.env s.outside)

    busy_after : (d : ℕ) → is_busy S Q d ≡ (if c == d then false else is_busy S P d)
    busy_after d = (busy_goes_on S P d).did Z w c hand.took (outcome.Fault number) (who told) [] legal

    -- who is not marked is another component
    busy_same : (d : ℕ) → has n.marks d ≡ false → is_busy S Q d ≡ is_busy S P d
    busy_same d h = busy_after d ∙ go (c == d) refl
      where
        go : (b : Bool) → (c == d) ≡ b → (if c == d then false else is_busy S P d) ≡ is_busy S P d
        go true e = absurd (let f : has n.marks d ≡ true = ap (has n.marks) (sym (eqb-true c d e)) ∙ noted.marked in cc (f, h))
        go false e = ap (λ b. if b then false else is_busy S P d) e

    pub unsettled : (u : Run) → IsJobEnded w c the_did n u → IsUnsettled S Z P the_did u
    unsettled u t = record {
      declarations = ap (λ y. y.declarations) (t.system ∙ noted.system);
      plan = ap (λ o. o.plan) (t.env ∙ noted.env);
      history = t.history ∙ ap (λ R. the_did ∷ R) noted.history;
      fits = s.fits;
      legal = legal;
      state = subst (λ x. StandsAt S (start_of Q) (state_of x)) (sym t.state) stands;
      numbers = subst (λ x. IsOf S x) (sym t.state) numbers;
      outside = subst (λ o. Follows S Z Q o) (sym (t.env ∙ noted.env)) outside;
      jobs = jobs_after S Z P w c hand (outcome.Fault number) (who told) [] s.legal found (entries v.jobs) (entries u.jobs) s.jobs
          (λ q. t.jobs q ∙ ap (λ js. if is_eq (nat_cmp q w) then None else value_of nat_cmp q js) noted.jobs);
      busy = no_more_busy S Z P w c hand.took (outcome.Fault number) (who told) [] v.busy u.busy busy_goes_on legal s.busy (λ d. t.busy d ∙ ap (λ m. if d == c then false else has m d) noted.busy);
      runnable_were = λ d. ap (λ m. has m d) (t.runnable ∙ noted.runnable) ∙ s.runnable_are d;
      others_stay = λ d h. unmarked_stay S P the_did 2 v.marks n.marks (state_of v.state) (state_of n.state) s.state stands noted.marks busy_same d (ap (λ m. has m d) (sym t.marks) ∙ h);
      busy_bound = let a = ap (λ x. length (state_of x).nodes) t.state in let b = ap length nodes_same in let d = t.busy_bound in let e = ap (λ m. m.bound) noted.busy in let h = s.busy_bound in omega (arith, a, b, d, e, h);
      runnable_bound = let a = ap (λ x. length (state_of x).nodes) t.state in let b = ap length nodes_same in let d = ap (λ m. m.bound) (t.runnable ∙ noted.runnable) in let h = s.runnable_bound in omega (arith, a, b, d, h);
      marks_bound = let a = ap (λ x. length (state_of x).nodes) t.state in let b = ap length nodes_same in let d = ap (λ m. m.bound) t.marks in let e = noted.marks.bound in let h = s.marks_bound in omega (arith, a, b, d, e, h);
      marks_within = let a = ap (λ m. m.bound) t.marks in let e = noted.marks.bound in let b = ap (λ m. m.bound) (t.runnable ∙ noted.runnable) in let h = s.marks_within in omega (arith, a, e, b, h);
      counts_are = subst (λ k. AreCounted S Z Q k) (sym t.counts) counted;
    }
