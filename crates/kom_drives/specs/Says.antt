-- What an answer says: R is the record before the call, and Q the one after it.
use Rattle.std.specs.Prelude.{◌≡◌, ℕ, Option, Some, None}
use Rattle.kom_system.specs.declared.system.System.{System}
use Rattle.kom_record.specs.declared.plan.Plan.{Plan}
use Rattle.kom_record.specs.declared.job.Job.{Job}
use Rattle.kom_record.specs.declared.job.Ran.{Ran}
use Rattle.kom_record.specs.declared.answers.Taken.TheVariants as taken
use Rattle.kom_record.specs.declared.answers.Rest.TheVariants as resting
use Rattle.kom_record.specs.Entries.{History}
use Rattle.kom_record.specs.Answers.{IsJobFor, IsCommit, AnswersTake, AnswersRest}
use Rattle.kom_drives.specs.declared.calls.Said.{Said}
use Rattle.kom_drives.specs.declared.calls.Said.TheVariants as said

module _ (S : System) (Z : Plan) (R : History) where
  -- to worker w, which had this in hand and asked for the next item of c
  abbrev pub SaysTake : ℕ → ℕ → Option Job → Said → History → Type 0
  SaysTake w c had said.Job Q = (had ≡ None) × ((job : Job) × IsJobFor S Z R w c job Q)
  SaysTake w c had said.Nothing Q = (had ≡ None) × AnswersTake S Z R w c taken.Nothing Q
  SaysTake w c had said.Closed Q = (had ≡ None) × AnswersTake S Z R w c taken.Closed Q
  SaysTake w c had said.NoCall Q = (had ≡ None → ⊥) × (Q ≡ R)
  SaysTake w c had said.Memory Q = (had ≡ None) × (Q ≡ R)
  SaysTake w c had (said.Ended woken) Q = ⊥
  SaysTake w c had (said.Moved woken) Q = ⊥
  SaysTake w c had (said.Ready d) Q = ⊥
  SaysTake w c had said.Waiting Q = ⊥
  SaysTake w c had said.End Q = ⊥

  -- to a worker that had this in hand and ended it
  abbrev pub SaysEnd : Option Job → Said → History → Type 0
  SaysEnd had (said.Ended woken) Q = (ran : Ran) × (had ≡ Some ran.job) × IsCommit S Z R ran woken Q
  SaysEnd had said.NoCall Q = (had ≡ None) × (Q ≡ R)
  SaysEnd had said.Memory Q = (had ≡ None → ⊥) × (Q ≡ R)
  SaysEnd had said.Job Q = ⊥
  SaysEnd had said.Nothing Q = ⊥
  SaysEnd had said.Closed Q = ⊥
  SaysEnd had (said.Moved woken) Q = ⊥
  SaysEnd had (said.Ready d) Q = ⊥
  SaysEnd had said.Waiting Q = ⊥
  SaysEnd had said.End Q = ⊥

  -- to worker w, which asked what there is to do
  abbrev pub SaysRest : ℕ → Said → History → Type 0
  SaysRest w (said.Moved woken) Q = AnswersRest S.declarations Z R w (resting.Moved woken) Q
  SaysRest w (said.Ready c) Q = AnswersRest S.declarations Z R w (resting.Ready c) Q
  SaysRest w said.Waiting Q = AnswersRest S.declarations Z R w resting.Waiting Q
  SaysRest w said.End Q = AnswersRest S.declarations Z R w resting.End Q
  SaysRest w said.Closed Q = AnswersRest S.declarations Z R w resting.Closed Q
  SaysRest w said.Memory Q = Q ≡ R
  SaysRest w said.Job Q = ⊥
  SaysRest w said.Nothing Q = ⊥
  SaysRest w (said.Ended woken) Q = ⊥
  SaysRest w said.NoCall Q = ⊥
