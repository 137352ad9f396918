-- A run with the end of a handling that went through.
use Rattle.std.proofs.Common.{◌≡◌, ℕ, ◌+◌, ◌≤◌, true, refl, sym, ap, ◌∙◌, subst, List, [], ◌∷◌, length, Option, Some, None, arith}
use Rattle.std.specs.Arc.{arc_value}
use Rattle.std.specs.Option.{option_map}
use Rattle.std.specs.Ordering.{nat_cmp}
use Rattle.std.proofs.Math.Logic.{∥∥₁_map₂}
use Rattle.kom_index.specs.Entries.{value_of}
use Rattle.kom_index.specs.Stock.{entries}
use Rattle.kom_lang.specs.Declarations.{Declarations}
use Rattle.kom_lang.specs.declared.body.Body.{Body}
use Rattle.kom_lang.specs.declared.body.Effect.{Effect}
use Rattle.kom_system.specs.declared.system.System.{System}
use Rattle.kom_record.specs.declared.plan.Plan.{Plan}
use Rattle.kom_record.specs.declared.item.Item.{Item}
use Rattle.kom_record.specs.declared.job.Job.{Job}
use Rattle.kom_record.specs.declared.job.Ran.{Ran}
use Rattle.kom_record.specs.declared.entry.Outcome.{Outcome}
use Rattle.kom_record.specs.declared.entry.Outcome.TheVariants as outcome
use Rattle.kom_record.specs.declared.entry.Entry.{Entry}
use Rattle.kom_record.specs.declared.entry.Entry.TheVariants.{Did}
use Rattle.kom_record.specs.Answers.{IsInHand, did as ended_by, job_of, recorded, wakes}
use Rattle.kom_record.specs.Bodies.{body_at, nearest}
use Rattle.kom_record.specs.Entries.{History, TakenJob, acts}
use Rattle.kom_record.specs.Instances.{alive}
use Rattle.kom_record.specs.Queues.{unreached}
use Rattle.kom_record.specs.Reaction.{Reacts}
use Rattle.kom_laws.proofs.Members.{Some-injective}
use Rattle.kom_entering.specs.Lists.{IsEntering}
use Rattle.kom_nursery.specs.Nurseries.{broods_of}
use Rattle.kom_marks.specs.Settling.{IsRunSettled, SettledStands}
use Rattle.kom_doing.specs.Marks.{marks_of}
use Rattle.kom_turns.specs.declared.run.Run.{Run}
use Rattle.kom_turns.specs.Runs.{IsRun, Stands, history_of, system_of}
use Rattle.kom_endings.proofs.Dids.{job_there}
use Rattle.kom_dones.specs.Dones.{DonesAreLegal, DonesAreRecorded, DonesUnsettle, IsDoneWith, IsDue, done_by}
use Rattle.kom_faults.proofs.Roomier.{nobody}
use Rattle.kom_noted.specs.Noting.{IsToNote, ToNote}
use Rattle.kom_preparing.specs.declared.prepared.Prepared.{Prepared}
use Rattle.kom_preparing.specs.Laws.{SpaciousRunsStand}
use Rattle.kom_preparing.specs.Preparing.{IsWorkedOut, WasReacted}
use Rattle.kom_preparing.specs.Spaces.{IsButForSpace}
use Rattle.kom_completing.specs.Completed.{told_by}

-- ---- the job

took_by : (v : Run) (job : Job) (took : ℕ) (hand : TakenJob) → Stands v → job_of (history_of v) job.w ≡ Some hand → option_map (λ h. h.took) (value_of nat_cmp job.w (entries v.jobs)) ≡ Some took → hand.took ≡ took
took_by v job took hand s found e = Some-injective (sym (ap (option_map (λ h. h.took)) (job_there v job.w hand s found)) ∙ e)

-- the job in hand is of a living component and reacts so
pub was_reacted : (v : Run) (job : Job) (o : Outcome) (took : ℕ) (body : Body) (es : List Effect) → (j : IsInHand (arc_value v.system) (history_of v) job) → alive (system_of v) (acts (history_of v)) job.c ≡ true
    → o ≡ outcome.Done body es → option_map (λ h. h.took) (value_of nat_cmp job.w (entries v.jobs)) ≡ Some took → Stands v → Reacts (arc_value job.system).declarations job.body job.item o → WasReacted job.w job.c took job.item body es v
was_reacted v job o took body es j lives is e s r = record {
  hand = j.hand;
  old = job.body;
  took_is = took_by v job took j.hand s j.found e;
  item_is = sym j.item;
  reacted = record {
    found = j.found;
    component = sym j.component;
    body_is = j.body;
    lives = lives;
    reacts = subst (λ (q : System × Item × Outcome). Reacts q.0.declarations job.body q.1 q.2) (λ i. (j.system i, j.item i, is i)) r;
  };
}

-- ---- what is known once all was worked out

pub record Known (v k : Run) (w c took : ℕ) (item : Item) (body : Body) (es : List Effect) (p : Prepared) (did : Entry) : Type 0 where
  pub stands : Stands v
  pub same : IsButForSpace v k
  pub was : WasReacted w c took item body es v
  pub found : IsWorkedOut c took item body es p v
  pub did_is : did ≡ Did w c took (outcome.Done body es) (told_by item es p.told) p.entering.unreached

pub known : (v k : Run) (ran : Ran) (took : ℕ) (body : Body) (es : List Effect) (p : Prepared) (did : Entry) (to : Option ℕ) (places : List ℕ) (o : Outcome)
    → IsRun v → IsInHand (arc_value v.system) (history_of v) ran.job → alive (system_of v) (acts (history_of v)) ran.job.c ≡ true → ran.outcome ≡ outcome.Done body es
    → option_map (λ h. h.took) (value_of nat_cmp ran.job.w (entries v.jobs)) ≡ Some took → IsButForSpace v k
    → ((w : ℕ) → Stands v → WasReacted w ran.job.c took ran.job.item body es v → IsWorkedOut ran.job.c took ran.job.item body es p v)
    → did ≡ Did ran.job.w ran.job.c took o to places → o ≡ outcome.Done body es → to ≡ told_by ran.job.item es p.told → places ≡ p.entering.unreached
    → ∥ Known v k ran.job.w ran.job.c took ran.job.item body es p did ∥₁
known v k ran took body es p did to places o run j lives is e same found did_is a b d = ∥∥₁_map₂ run ran.reacted (λ s r.
    let was = was_reacted v ran.job ran.outcome took body es j lives is e s r in
    record {
      stands = s;
      same = same;
      was = was;
      found = found ran.job.w s was;
      did_is = did_is ∙ (λ i. Did ran.job.w ran.job.c took (a i) (b i) (d i));
    })

pub record Laws : Type 0 where
  pub spacious : SpaciousRunsStand
  pub legal_is : DonesAreLegal
  pub unsettle : DonesUnsettle
  pub recorded_is : DonesAreRecorded
  pub settled_is : SettledStands

module _ (law : Laws) where
  module _ (v k : Run) (w c took : ℕ) (item : Item) (body : Body) (es : List Effect) (p : Prepared) (did : Entry) (q : Known v k w c took item body es p did) where
    abbrev S : Declarations
    S = system_of v

    abbrev Z : Plan
    Z = v.env.plan

    abbrev P : History
    P = history_of v

    abbrev hand : TakenJob
    hand = q.was.hand

    abbrev old : Body
    old = q.was.old

    abbrev to : Option ℕ
    to = told_by hand.item es p.told

    abbrev places : List ℕ
    places = p.entering.unreached

    abbrev the_did : Entry
    the_did = done_by w c hand body es to places

    sys : system_of k ≡ S
    sys = ap (λ y. y.declarations) q.same.system

    plans : k.env.plan ≡ Z
    plans = ap (λ o. o.plan) q.same.env

    entering_is : (to : Option ℕ) (places : List ℕ) → IsEntering S P (done_by w c hand body es to places) p.entering
    entering_is to places = subst (λ t. IsEntering S P (Did w c t (outcome.Done body es) to places) p.entering) (sym q.was.took_is) (q.found.entering w to places)

    missed : places ≡ unreached S P (done_by w c hand body es None [])
    missed = (entering_is None []).unreached

    due : IsDue w c hand old body es p.told to places v
    due = record {
      found = q.was.reacted.found;
      component = q.was.reacted.component;
      body_is = q.was.reacted.body_is;
      lives = q.was.reacted.lives;
      reacts = q.was.reacted.reacts;
      near_is = q.found.told;
      told = refl;
      unreached_are = missed;
    }

    due_still : IsDue w c hand old body es p.told to places k
    due_still = record {
      found = ap (λ R. job_of R w) q.same.history ∙ q.was.reacted.found;
      component = q.was.reacted.component;
      body_is = (λ i. body_at (sys i) (q.same.history i) c) ∙ q.was.reacted.body_is;
      lives = (λ i. alive (sys i) (acts (q.same.history i)) c) ∙ q.was.reacted.lives;
      reacts = subst (λ T. Reacts T old hand.item (outcome.Done body es)) (sym sys) q.was.reacted.reacts;
      near_is = q.found.told ∙ sym (λ i. nearest (sys i) (q.same.history i) c);
      told = refl;
      unreached_are = missed ∙ sym (λ i. unreached (sys i) (q.same.history i) (done_by w c hand body es None []));
    }

    stands_still : Stands k
    stands_still = law.spacious v k q.same q.stands

    pub note : IsToNote w c item p.told body es p.entering p.nursery did hand old to places k
    note = record {
      stands = stands_still;
      due = due_still;
      item_is = q.was.item_is;
      did_is = q.did_is ∙ (λ i. Did w c (sym q.was.took_is i) (outcome.Done body es) (told_by (sym q.was.item_is i) es p.told) places);
      legal = law.legal_is w c hand old body es p.told to places k stands_still due_still;
      entering_is = subst (λ (z : Declarations × History). IsEntering z.0 z.1 the_did p.entering) (λ i. (sym sys i, sym q.same.history i)) (entering_is to places);
      broods_are = q.found.broods ∙ sym (λ i. broods_of (sys i) (acts (q.same.history i)) c item es);
    }

    pub to_note : ToNote w c item p.told body es p.entering p.nursery did k
    to_note = record { hand = hand; old = old; to = to; places = places; note = note }

    -- the marks are as many as the list has room for
    pub few_marked : (n : Run) (room : ℕ)
        → length n.marks.list ≤ length k.marks.list + ((((1 + length body.slots) + length p.entering.comings) + marks_of (system_of k) (acts (history_of k)) c item es) + 1)
        → (((1 + length body.slots) + length p.entering.comings) + marks_of S (acts P) c item es) + 1 ≤ room → length n.marks.list ≤ room
    few_marked n room a b =
        let e = nobody k.marks stands_still.unmarked in
        let m : marks_of (system_of k) (acts (history_of k)) c item es ≡ marks_of S (acts P) c item es = λ i. marks_of (sys i) (acts (q.same.history i)) c item es in
        omega (arith, a, b, e, m)

    module _ (n x : Run) (woken : List ℕ) (done : IsDoneWith w c hand body es p.told to places k n) (t : IsRunSettled n x woken) where
      ended : Stands x × (woken ≡ wakes (system_of k) k.env.plan (history_of k) (the_did ∷ history_of k))
      ended = law.settled_is (system_of k) k.env.plan (history_of k) the_did n x woken (law.unsettle w c hand old body es p.told to places k n stands_still due_still done) t

      pub stands_then : Stands x
      stands_then = ended.0

      pub history : history_of x ≡ the_did ∷ P
      history = ap (λ r. r.history) t.kept ∙ done.history ∙ ap (λ R. the_did ∷ R) q.same.history

      pub added : (h : TakenJob) (o : Outcome) → job_of P w ≡ Some h → o ≡ outcome.Done body es → history_of x ≡ ended_by S P h (recorded (alive S (acts P) c) o) ∷ P
      added h o f e =
          history ∙ law.recorded_is w c hand old body es p.told to places v o due e
          ∙ ap (λ g. ended_by S P g (recorded (alive S (acts P) c) o) ∷ P) (Some-injective (sym q.was.reacted.found ∙ f))

      pub woken_are : woken ≡ wakes S Z P (history_of x)
      woken_are = ended.1 ∙ (λ i. wakes (sys i) (plans i) (q.same.history i) (the_did ∷ q.same.history i)) ∙ ap (wakes S Z P) (sym history)

      pub system_same : arc_value x.system ≡ arc_value v.system
      system_same = t.system ∙ done.system ∙ q.same.system

      pub plan_same : x.env.plan ≡ v.env.plan
      plan_same = ap (λ o. o.plan) t.env ∙ done.plan ∙ plans
