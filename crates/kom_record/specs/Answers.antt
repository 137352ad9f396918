-- What the answers of a station say: R is the record before the call, Q the one after it, and S the
-- system of the station.
use Rattle.std.specs.Prelude.{◌≡◌, ℕ, Bool, true, false, not, ◌==◌, IsTrue, List, [], ◌∷◌, filter, Option, Some, None}
use Rattle.std.specs.List.{find}
use Rattle.std.specs.Arc.{arc_value}
use Rattle.kom_base.specs.Lists.{first}
use Rattle.kom_lang.specs.Declarations.{Declarations}
use Rattle.kom_system.specs.declared.system.System.{System}
use Rattle.kom_record.specs.declared.plan.Plan.{Plan}
use Rattle.kom_record.specs.declared.entry.Entry.{Entry}
use Rattle.kom_record.specs.declared.entry.Entry.TheVariants.{Took, Did, Moved}
use Rattle.kom_record.specs.declared.entry.Outcome.{Outcome}
use Rattle.kom_record.specs.declared.entry.Outcome.TheVariants as outcome
use Rattle.kom_record.specs.declared.entry.Release.{Release}
use Rattle.kom_record.specs.declared.job.Job.{Job}
use Rattle.kom_record.specs.declared.job.Ran.{Ran}
use Rattle.kom_record.specs.declared.answers.Taken.{Taken}
use Rattle.kom_record.specs.declared.answers.Taken.TheVariants as taken
use Rattle.kom_record.specs.declared.answers.Committed.{Committed}
use Rattle.kom_record.specs.declared.answers.Committed.TheVariants as committed
use Rattle.kom_record.specs.declared.answers.Rest.{Rest}
use Rattle.kom_record.specs.declared.answers.Rest.TheVariants as rest
use Rattle.kom_record.specs.Entries.{History, TakenJob, in_hand, acts}
use Rattle.kom_record.specs.Instances.{alive}
use Rattle.kom_record.specs.Bodies.{body_at}
use Rattle.kom_record.specs.Queues.{unreached}
use Rattle.kom_record.specs.Controls.{told}
use Rattle.kom_record.specs.Ready.{next, ready, ready_list, is_closed}
use Rattle.kom_record.specs.Time.{pending}
use Rattle.kom_record.specs.Legal.{MayMove}

-- the job that worker w has in hand
unfoldable pub job_of : History → ℕ → Option TakenJob
job_of R w = find (λ job. job.w == w) (in_hand R)

abbrev pub IsFree : History → ℕ → Type 0
IsFree R w = job_of R w ≡ None

-- the job is the one that its worker has in hand, with the body that its component now has and the
-- station's system
pub record IsInHand (S : System) (R : History) (job : Job) : Type 0 where
  pub hand : TakenJob
  pub found : job_of R job.w ≡ Some hand
  pub component : job.c ≡ hand.c
  pub item : job.item ≡ hand.item
  pub body : body_at S.declarations R job.c ≡ Some job.body
  pub system : arc_value job.system ≡ S

-- those that are ready in Q and were not ready in R, in order of number
unfoldable pub wakes : Declarations → Plan → History → History → List ℕ
wakes S Z R Q = filter (λ c. not (ready S Z R c)) (ready_list S Z Q)

-- ---- take

-- c was ready, the job has c's next item and c's body, and its Took was added
pub record IsJobFor (S : System) (Z : Plan) (R : History) (w c : ℕ) (job : Job) (Q : History) : Type 0 where
  pub added : Q ≡ Took w c job.item ∷ R
  pub next : next S.declarations R c ≡ Some job.item
  pub ready : IsTrue (ready S.declarations Z R c)
  pub worker : job.w ≡ w
  pub component : job.c ≡ c
  pub body : body_at S.declarations R c ≡ Some job.body
  pub system : arc_value job.system ≡ S

abbrev pub AnswersTake : System → Plan → History → ℕ → ℕ → Taken → History → Type 0
AnswersTake S Z R w c (taken.Job job) Q = IsJobFor S Z R w c job Q
AnswersTake S Z R w c taken.Nothing Q = (is_closed S.declarations Z R ≡ false) × (ready S.declarations Z R c ≡ false) × (Q ≡ R)
AnswersTake S Z R w c taken.Closed Q = (is_closed S.declarations Z R ≡ true) × (Q ≡ R)
AnswersTake S Z R w c taken.Memory Q = Q ≡ R

-- ---- commit

-- the outcome that is recorded: Void where the component is no longer alive
abbrev pub recorded : Bool → Outcome → Outcome
recorded true o = o
recorded false o = outcome.Void

-- the entry that ends the job of a Took, when o is recorded
unfoldable pub did : Declarations → History → TakenJob → Outcome → Entry
did S R job o =
    Did job.w job.c job.took o (told S R (Did job.w job.c job.took o None []) job.c) (unreached S R (Did job.w job.c job.took o None []))

pub record IsCommit (S : System) (Z : Plan) (R : History) (ran : Ran) (woken : List ℕ) (Q : History) : Type 0 where
  pub hand : TakenJob
  pub found : job_of R ran.job.w ≡ Some hand
  pub added : Q ≡ did S.declarations R hand (recorded (alive S.declarations (acts R) ran.job.c) ran.outcome) ∷ R
  pub woken_are : woken ≡ wakes S.declarations Z R Q

abbrev pub AnswersCommit : System → Plan → History → Ran → Committed → History → Type 0
AnswersCommit S Z R ran (committed.Wakes woken) Q = IsCommit S Z R ran woken Q
AnswersCommit S Z R ran (committed.Memory back) Q = (back ≡ ran) × (Q ≡ R)

-- ---- rest

pub record IsMove (S : Declarations) (Z : Plan) (R : History) (w : ℕ) (woken : List ℕ) (Q : History) : Type 0 where
  pub t : ℕ
  pub released : List Release
  pub may : MayMove S Z R t released
  pub added : Q ≡ Moved w t released ∷ R
  pub woken_are : woken ≡ wakes S Z R Q

abbrev pub AnswersRest : Declarations → Plan → History → ℕ → Rest → History → Type 0
AnswersRest S Z R w (rest.Moved woken) Q = IsMove S Z R w woken Q
AnswersRest S Z R w (rest.Ready c) Q = (is_closed S Z R ≡ false) × (first (ready_list S Z R) ≡ Some c) × (Q ≡ R)
AnswersRest S Z R w rest.Waiting Q = (is_closed S Z R ≡ false) × (ready_list S Z R ≡ []) × (in_hand R ≡ [] → ⊥) × (Q ≡ R)
AnswersRest S Z R w rest.End Q = (is_closed S Z R ≡ false) × (ready_list S Z R ≡ []) × (in_hand R ≡ []) × (pending S Z R ≡ []) × (Q ≡ R)
AnswersRest S Z R w rest.Closed Q = (is_closed S Z R ≡ true) × (Q ≡ R)
AnswersRest S Z R w rest.Memory Q = Q ≡ R

-- ---- a whole handling

-- w took c's next item and ended the job at once
pub record IsHandling (S : Declarations) (R : History) (w c : ℕ) (Q : History) : Type 0 where
  pub job : TakenJob
  pub outcome : Outcome
  pub worker : job.w ≡ w
  pub component : job.c ≡ c
  pub next : next S R c ≡ Some job.item
  pub added : Q ≡ did S (Took w c job.item ∷ R) job outcome ∷ Took w c job.item ∷ R
