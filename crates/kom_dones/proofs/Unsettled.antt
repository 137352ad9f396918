-- A run stands for the record with a handling that ended.
use Rattle.std.proofs.Common.{◌≡◌, ℕ, Bool, true, false, if◌then◌else◌, ◌&&◌, ◌||◌, ◌==◌, refl, sym, ap, ◌∙◌, subst, List, [], ◌∷◌, length, Option, Some, None, arith}
use Rattle.std.specs.Prelude.{is_none}
use Rattle.std.proofs.lemmas.Bool.{eqb-true}
use Rattle.kom_comps.specs.Members.{Members, has}
use Rattle.kom_index.specs.Stock.{entries}
use Rattle.kom_lang.specs.Declarations.{Declarations}
use Rattle.kom_lang.specs.declared.body.Body.{Body}
use Rattle.kom_lang.specs.declared.body.Effect.{Effect}
use Rattle.kom_record.specs.Queues.{unreached}
use Rattle.kom_record.specs.declared.plan.Plan.{Plan}
use Rattle.kom_record.specs.declared.entry.Outcome.{Outcome}
use Rattle.kom_record.specs.declared.entry.Outcome.TheVariants as outcome
use Rattle.kom_record.specs.declared.entry.Entry.{Entry}
use Rattle.kom_record.specs.declared.entry.Entry.TheVariants.{Did}
use Rattle.kom_record.specs.Answers.{did, job_of, recorded}
use Rattle.kom_record.specs.Controls.{told}
use Rattle.kom_record.specs.Instances.{alive}
use Rattle.kom_record.specs.Entries.{History, TakenJob, acts, item_at}
use Rattle.kom_record.specs.Legal.{IsLegal}
use Rattle.kom_record.specs.Ready.{has_unhandled, is_busy}
use Rattle.kom_refine.specs.Points.{StandsAt, start_of}
use Rattle.kom_refine.specs.Within.{HandlingsEnd}
use Rattle.kom_state.specs.Parts.{state_of}
use Rattle.kom_times.specs.Laws.{FollowsADid}
use Rattle.kom_wakes.specs.Laws.{BusyGoesOn, CountsGoOn}
use Rattle.kom_marks.specs.Marking.{IsMarked}
use Rattle.kom_marks.specs.Settling.{IsUnsettled, UnmarkedStay}
use Rattle.kom_raised.specs.Raised.{DonesAreTold, is_raised}
use Rattle.kom_turns.specs.declared.run.Run.{Run}
use Rattle.kom_turns.specs.Runs.{AreCounted, Stands, history_of, system_of}
use Rattle.kom_endings.proofs.Hands.{one_less_job}
use Rattle.kom_endings.proofs.Dids.{jobs_after, no_more_busy}
use Rattle.kom_dones.specs.Dones.{IsDoneWith, IsDue, done_by}
use Rattle.kom_dones.proofs.Lawful as lawful

module _ (ends : HandlingsEnd) (follows : FollowsADid) (busy_goes_on : BusyGoesOn) (counts_go_on : CountsGoOn) (unmarked_stay : UnmarkedStay) (told_is : DonesAreTold)
    (w c : ℕ) (hand : TakenJob) (old body : Body) (effects : List Effect) (near : Option (ℕ × ℕ)) (to : Option ℕ) (places : List ℕ) (v n : Run)
    (s : Stands v) (due : IsDue w c hand old body effects near to places v) (t : IsDoneWith w c hand body effects near to places v n) where
  abbrev S : Declarations
  S = system_of v

  abbrev Z : Plan
  Z = v.env.plan

  abbrev P : History
  P = history_of v

  abbrev o : Outcome
  o = outcome.Done body effects

  abbrev the_did : Entry
  the_did = done_by w c hand body effects to places

  abbrev Q : History
  Q = the_did ∷ P

  item_is : item_at P hand.took ≡ Some hand.item
  item_is = lawful.item_is told_is w c hand old body effects near to places v due

  legal : IsLegal S Z Q
  legal = lawful.legal told_is w c hand old body effects near to places v due s

  stands : StandsAt S (start_of Q) (state_of n.state)
  stands = ends S Z P w c hand.took hand.item body effects to places t.between (state_of n.state) legal item_is t.ended t.acted

  busy_after : (d : ℕ) → is_busy S Q d ≡ (if c == d then false else is_busy S P d)
  busy_after d = (busy_goes_on S P d).did Z w c hand.took o to places legal

  busy_same : (d : ℕ) → has n.marks d ≡ false → is_busy S Q d ≡ is_busy S P d
  busy_same d h = busy_after d ∙ go (c == d) refl
    where
      go : (b : Bool) → (c == d) ≡ b → (if c == d then false else is_busy S P d) ≡ is_busy S P d
      go true e = absurd (let f : has n.marks d ≡ true = ap (has n.marks) (sym (eqb-true c d e)) ∙ t.marked in cc (f, h))
      go false e = ap (λ b. if b then false else is_busy S P d) e

  abbrev nobody : Members
  nobody = record { list = []; bound = n.marks.bound }

  marks : IsMarked (length n.marks.list) nobody n.marks (state_of v.state) (state_of n.state)
  unfolding has
  marks = record { leaves = λ d h. (refl, t.leaves d h); few = omega arith; bound = refl }

  counted : AreCounted S Z Q n.counts
  counted =
      let k = counts_go_on S Z P the_did in
      let old = s.counts_are in
      record {
        steps = let a = k.took in let b = old.steps in let e = t.steps in omega (arith, a, b, e);
        instants = let a = k.moved in let b = old.instants in let e = t.instants in omega (arith, a, b, e);
        unhandled = t.unhandled ∙ ap (λ b. b || (is_raised hand.item effects && is_none near)) old.unhandled
            ∙ ap (λ b. has_unhandled S P || b) (sym (told_is S P w c hand.took hand.item body effects to places near item_is due.near_is).unhandled) ∙ sym k.unhandled;
        queued_are = t.queued_are;
        out_are = t.out_are;
        entries = let a = k.took in let b = k.moved in let d = old.entries in let e = one_less_job P w c hand o to places due.found in omega (arith, a, b, d, e);
      }

  pub unsettled : IsUnsettled S Z P the_did n
  unsettled = record {
    declarations = ap (λ y. y.declarations) t.system;
    plan = t.plan;
    history = t.history;
    fits = s.fits;
    legal = legal;
    state = stands;
    numbers = t.numbers;
    outside = (follows S Z P).2 w c hand.took o to places n.env t.outside;
    jobs = jobs_after S Z P w c hand o to places s.legal due.found (entries v.jobs) (entries n.jobs) s.jobs t.jobs;
    busy = no_more_busy S Z P w c hand.took o to places v.busy n.busy busy_goes_on legal s.busy t.busy;
    runnable_were = λ d. t.runnable d ∙ s.runnable_are d;
    others_stay = unmarked_stay S P the_did (length n.marks.list) nobody n.marks (state_of v.state) (state_of n.state) s.state stands marks busy_same;
    busy_bound = t.busy_bound;
    runnable_bound = t.runnable_bound;
    marks_bound = t.marks_bound;
    marks_within = t.marks_within;
    counts_are = counted;
  }

module _ (told_is : DonesAreTold) (w c : ℕ) (hand : TakenJob) (old body : Body) (effects : List Effect) (near : Option (ℕ × ℕ)) (to : Option ℕ) (places : List ℕ) (v : Run)
    (due : IsDue w c hand old body effects near to places v) where
  same_worker : hand.w ≡ w
  same_worker = eqb-true hand.w w (lawful.held told_is w c hand old body effects near to places v due).1

  item_there : item_at (history_of v) hand.took ≡ Some hand.item
  item_there = lawful.item_is told_is w c hand old body effects near to places v due

  pub is_recorded : (o : Outcome) → o ≡ outcome.Done body effects
      → done_by w c hand body effects to places ∷ history_of v ≡ did (system_of v) (history_of v) hand (recorded (alive (system_of v) (acts (history_of v)) c) o) ∷ history_of v
  unfolding did
  is_recorded o e =
      let S = system_of v in
      let P = history_of v in
      let to_is : to ≡ told S P (done_by w c hand body effects None []) c = due.told ∙ sym (told_is S P w c hand.took hand.item body effects None [] near item_there due.near_is).told_is in
      let entry : ℕ → ℕ → Entry = λ a b. Did a b hand.took (outcome.Done body effects) (told S P (Did a b hand.took (outcome.Done body effects) None []) b) (unreached S P (Did a b hand.took (outcome.Done body effects) None [])) in
      (λ i. Did w c hand.took (outcome.Done body effects) (to_is i) (due.unreached_are i) ∷ P)
      ∙ (λ i. entry (sym same_worker i) (sym due.component i) ∷ P)
      ∙ sym (ap (λ t. did S P hand (recorded t o) ∷ P) due.lives ∙ ap (λ o. did S P hand o ∷ P) e)
