-- A run stands for the record with a Void.
use Rattle.std.proofs.Common.{◌≡◌, ℕ, Bool, true, false, if◌then◌else◌, not, ◌&&◌, ◌||◌, ◌==◌, refl, sym, ap, ◌∙◌, subst, List, [], ◌∷◌, length, filter, Some, None, arith}
use Rattle.std.specs.Prelude.{is_some}
use Rattle.std.proofs.lemmas.List.{append-nil}
use Rattle.kom_lang.specs.Declarations.{Declarations}
use Rattle.kom_lang.specs.declared.body.Body.{Body}
use Rattle.kom_record.specs.Model.{model}
use Rattle.kom_record.specs.declared.plan.Plan.{Plan}
use Rattle.kom_record.specs.declared.entry.Outcome.{Outcome}
use Rattle.kom_record.specs.declared.entry.Outcome.TheVariants as outcome
use Rattle.kom_record.specs.declared.entry.Entry.{Entry}
use Rattle.kom_record.specs.declared.entry.Entry.TheVariants.{Did}
use Rattle.kom_record.specs.Answers.{did, job_of, recorded, wakes}
use Rattle.kom_record.specs.Bodies.{body_at}
use Rattle.kom_record.specs.Controls.{control_waiting}
use Rattle.kom_record.specs.Entries.{History, TakenJob, acts, in_hand}
use Rattle.kom_record.specs.Instances.{alive}
use Rattle.kom_record.specs.Legal.{IsLegal, MayDo, MayEnd}
use Rattle.kom_record.specs.Ready.{candidates, has_unhandled, instance_numbers, is_active, is_busy, ready, runnable}
use Rattle.kom_record.specs.Time.{outgoing}
use Rattle.kom_base.specs.Lists.{first}
use Rattle.kom_comps.specs.Members.{has}
use Rattle.kom_index.specs.Stock.{entries}
use Rattle.kom_laws.proofs.Handlings.{found_in}
use Rattle.kom_laws.proofs.Members.{IsIn}
use Rattle.std.proofs.lemmas.Bool.{eqb-true}
use Rattle.kom_refine.specs.Laws.{VoidFollows}
use Rattle.kom_refine.specs.Points.{StandsAt, start_of}
use Rattle.kom_state.specs.Parts.{IsOf, state_of}
use Rattle.kom_times.specs.Following.{Follows}
use Rattle.kom_times.specs.Laws.{FollowsADid}
use Rattle.kom_wakes.specs.Laws.{BusyGoesOn, CountsGoOn, OutIsCounted, QueuedIsCounted, SameWorkGoesOn, UntouchedStay, WakesAreMarked}
use Rattle.kom_turns.specs.declared.run.Run.{Run}
use Rattle.kom_turns.specs.Runs.{AreCounted, Stands, history_of, system_of}
use Rattle.kom_turns.proofs.Standing.{moved}
use Rattle.kom_endings.specs.Ended.{IsJobEnded}
use Rattle.kom_endings.proofs.Hands.{by_took, one_less_job}
use Rattle.kom_endings.proofs.Dids.{jobs_after, no_more_busy}

none_left : {X : Type 0} (xs : List X) (f : X → Bool) → filter (λ x. false && f x) xs ≡ []
none_left [] f = refl
none_left (x ∷ xs) f = none_left xs f

pub ended_as : (k n : Run) (w c took t : ℕ) (places : List ℕ) → took ≡ t → places ≡ [] → IsJobEnded w c (Did w c took outcome.Void None places) k n → IsJobEnded w c (Did w c t outcome.Void None []) k n
ended_as k n w c took t places a b e = subst (λ (q : ℕ × List ℕ). IsJobEnded w c (Did w c q.0 outcome.Void None q.1) k n) (λ i. (a i, b i)) e

-- the Did is the one that ends the job
pub void_added : (S : Declarations) (R : History) (w c : ℕ) (hand : TakenJob) (o : Outcome) → alive S (acts R) c ≡ false → hand.w ≡ w → hand.c ≡ c
    → Did w c hand.took outcome.Void None [] ∷ R ≡ did S R hand (recorded (alive S (acts R) c) o) ∷ R
unfolding did model
void_added S R w c hand o dead a b = (λ i. Did (sym a i) (sym b i) hand.took outcome.Void None [] ∷ R) ∙ sym (ap (λ t. did S R hand (recorded t o) ∷ R) dead)

module _ (void_follows : VoidFollows) (follows : FollowsADid) (busy_goes_on : BusyGoesOn) (counts_go_on : CountsGoOn) (out_is : OutIsCounted) (queued_is : QueuedIsCounted)
    (same_work : SameWorkGoesOn) (untouched : UntouchedStay) (marked : WakesAreMarked) where
  module _ (v n : Run) (w c : ℕ) (hand : TakenJob) (body : Body) (s : Stands v) (found : job_of (history_of v) w ≡ Some hand) (own : hand.c ≡ c)
      (body_is : body_at (system_of v) (history_of v) c ≡ Some body) (dead : alive (system_of v) (acts (history_of v)) c ≡ false) where
    abbrev S : Declarations
    S = system_of v

    abbrev Z : Plan
    Z = v.env.plan

    abbrev P : History
    P = history_of v

    abbrev pub the_did : Entry
    the_did = Did w c hand.took outcome.Void None []

    abbrev Q : History
    Q = the_did ∷ P

    held : IsIn hand (in_hand P) × (hand.w == w) ≡ true
    unfolding job_of
    held = found_in (λ j. j.w == w) (in_hand P) hand found

    may : MayDo S Z P w c hand.took outcome.Void None []
    unfolding model job_of
    may = record {
      job = hand;
      body = body;
      in_hand = by_took P w hand found;
      worker = eqb-true hand.w w held.1;
      component = own;
      body_is = body_is;
      outcome = subst (λ t. MayEnd S Z t body hand.item outcome.Void) (sym dead) refl;
      told = refl;
      unreached = refl;
    }

    pub legal : IsLegal S Z Q
    unfolding IsLegal
    legal = (s.legal, may)

    stands : StandsAt S (start_of Q) (state_of v.state)
    stands = void_follows S Z P w c hand.took None [] (state_of v.state) legal s.state

    busy_after : (d : ℕ) → is_busy S Q d ≡ (if c == d then false else is_busy S P d)
    busy_after d = (busy_goes_on S P d).did Z w c hand.took outcome.Void None [] legal

    dead_not : (R : History) → alive S (acts R) c ≡ false → runnable S R c ≡ false
    unfolding runnable
    dead_not R e = ap (λ a. a && not (is_busy S R c) && (is_some (first (control_waiting S R c)) || (is_active S R c && is_some (first (candidates S R c))))) e

    still_dead : alive S (acts Q) c ≡ false
    unfolding model
    still_dead = dead

    pub same_runnable : (d : ℕ) → runnable S Q d ≡ runnable S P d
    same_runnable d = go (c == d) refl
      where
        go : (b : Bool) → (c == d) ≡ b → runnable S Q d ≡ runnable S P d
        go true e = let x : c ≡ d = eqb-true c d e in subst (λ y. runnable S Q y ≡ runnable S P y) x (dead_not Q still_dead ∙ sym (dead_not P dead))
        go false e = untouched S P Q (state_of v.state) (state_of v.state) d s.state stands (same_work.0 (state_of v.state) d) (busy_after d ∙ ap (λ b. if b then false else is_busy S P d) e)

    counted : AreCounted S Z Q v.counts
    unfolding model
    counted =
        let k = counts_go_on S Z P the_did in
        let old = s.counts_are in
        record {
          steps = let a = k.took in let b = old.steps in omega (arith, a, b);
          instants = let a = k.moved in let b = old.instants in omega (arith, a, b);
          unhandled = old.unhandled ∙ sym (k.unhandled ∙ or_false (has_unhandled S P));
          queued_are = old.queued_are ∙ queued_is S P (state_of v.state) s.state ∙ sym (queued_is S Q (state_of v.state) stands);
          out_are = old.out_are ∙ out_is S P ∙ sym (ap length (append-nil (outgoing S P))) ∙ sym (out_is S Q);
          entries = let a = k.took in let b = k.moved in let d = old.entries in let e = one_less_job P w c hand outcome.Void None [] found in omega (arith, a, b, d, e);
        }
      where
        or_false : (b : Bool) → (b || false) ≡ b
        or_false true = refl
        or_false false = refl

    outside : Follows S Z Q v.env
    unfolding model
    outside = let f = follows S Z P in f.2 w c hand.took outcome.Void None [] v.env (f.0 v.env s.outside)

    pub void_stands : IsJobEnded w c the_did v n → Stands n
    void_stands t =
        moved S (system_of n) Z n.env.plan Q (history_of n) n (sym (ap (λ y. y.declarations) t.system)) (sym (ap (λ o. o.plan) t.env)) (sym t.history)
        (record {
          fits = s.fits;
          legal = legal;
          state = subst (λ x. StandsAt S (start_of Q) (state_of x)) (sym t.state) stands;
          numbers = subst (λ x. IsOf S x) (sym t.state) s.numbers;
          outside = subst (λ o. Follows S Z Q o) (sym t.env) outside;
          jobs = jobs_after S Z P w c hand outcome.Void None [] s.legal found (entries v.jobs) (entries n.jobs) s.jobs t.jobs;
          busy = no_more_busy S Z P w c hand.took outcome.Void None [] v.busy n.busy busy_goes_on legal s.busy t.busy;
          runnable_are = λ d. ap (λ m. has m d) t.runnable ∙ s.runnable_are d ∙ sym (same_runnable d);
          unmarked = λ d. ap (λ m. has m d) t.marks ∙ s.unmarked d;
          busy_bound = let a = ap (λ x. length (state_of x).nodes) t.state in let b = t.busy_bound in let h = s.busy_bound in omega (arith, a, b, h);
          runnable_bound = let a = ap (λ x. length (state_of x).nodes) t.state in let b = ap (λ m. m.bound) t.runnable in let h = s.runnable_bound in omega (arith, a, b, h);
          marks_bound = let a = ap (λ x. length (state_of x).nodes) t.state in let b = ap (λ m. m.bound) t.marks in let h = s.marks_bound in omega (arith, a, b, h);
          marks_within = let a = ap (λ m. m.bound) t.marks in let b = ap (λ m. m.bound) t.runnable in let h = s.marks_within in omega (arith, a, b, h);
          counts_are = subst (λ k. AreCounted S Z Q k) (sym t.counts) counted;
        })

    -- nobody becomes ready
    pub none_woken : wakes S Z P Q ≡ []
    none_woken = marked S Z P the_did (λ d. false) (λ d h. same_runnable d) ∙ none_left (instance_numbers S Q) (λ d. ready S Z Q d && not (ready S Z P d))
