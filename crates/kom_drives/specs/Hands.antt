-- What workers have in hand.
use Rattle.std.specs.Prelude.{◌≡◌, ℕ, Option, Some, None}
use Rattle.kom_system.specs.declared.system.System.{System}
use Rattle.kom_record.specs.declared.plan.Plan.{Plan}
use Rattle.kom_record.specs.declared.job.Job.{Job}
use Rattle.kom_record.specs.Entries.{History}
use Rattle.kom_record.specs.Answers.{IsFree, IsInHand}
use Rattle.kom_drives.specs.declared.calls.Hand.{Hand}

-- worker w has this job in hand, or none
abbrev pub HoldsJob : System → History → ℕ → Option Job → Type 0
HoldsJob S R w None = IsFree R w
HoldsJob S R w (Some job) = (job.w ≡ w) × IsInHand S R job

abbrev pub Holds : System → History → Hand → Type 0
Holds S R hand = HoldsJob S R hand.w hand.job

-- what each worker has in hand in R it has in Q
abbrev pub KeepsAll : System → History → History → Type 0
KeepsAll S R Q = (x : ℕ) (held : Option Job) → HoldsJob S R x held → HoldsJob S Q x held

-- so has each but w
abbrev pub KeepsOthers : ℕ → System → History → History → Type 0
KeepsOthers w S R Q = (x : ℕ) (held : Option Job) → (x ≡ w → ⊥) → HoldsJob S R x held → HoldsJob S Q x held

-- the system and the plan are as before
abbrev pub IsSameRun : {T : Type 0} → (T → System) → (T → Plan) → T → T → Type 0
IsSameRun system plan x y = (system y ≡ system x) × (plan y ≡ plan x)
