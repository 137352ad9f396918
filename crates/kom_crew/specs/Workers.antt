-- Where a worker of a crew stands between two of its steps.
use Rattle.std.specs.Prelude.{◌≡◌, ℕ, ◌||◌, true, min, List, [], length, Some, slice_get}
use Rattle.kom_lang.specs.Declarations.{Declarations}
use Rattle.kom_system.specs.declared.system.System.{System}
use Rattle.kom_record.specs.declared.plan.Plan.{Plan}
use Rattle.kom_record.specs.declared.job.Job as jobs
use Rattle.kom_record.specs.Entries.{History}
use Rattle.kom_record.specs.Legal.{IsLegal}
use Rattle.kom_record.specs.Ready.{is_closed, is_idle}
use Rattle.kom_record.specs.Answers.{IsFree, IsInHand}
use Rattle.kom_exchange.specs.Later.{IsLater, about_of}
use Rattle.kom_exchange.specs.Seats.{view, given_to, right_for}
use Rattle.kom_ready.specs.Counts.{last_count}
use Rattle.kom_ready.specs.Lots.{IsLotOf, deques_of, given_of}
use Rattle.kom_crew.specs.declared.crew.Crew.{Crew}
use Rattle.kom_crew.specs.declared.step.Step.{Step}
use Rattle.kom_crew.specs.declared.step.Step.TheVariants.{Again, Over, Memory}
use Rattle.kom_crew.specs.declared.worker.Left.{Left}
use Rattle.kom_crew.specs.declared.worker.Left.TheVariants.{Nothing, Job, Ran}
use Rattle.kom_crew.specs.declared.worker.Worker.{Worker}

-- the record that a worker has seen
abbrev pub seen_by : Worker → History
seen_by w = (view w.seat).own.seen

-- the worker has counted what its lot gave; the count stands still at the greatest u64
abbrev pub IsCounted : Worker → Type 0
IsCounted w = w.given ≡ min (length (given_of w.lot)) last_count

-- how many workers a crew has
abbrev pub size_of : {T : Type 0} → Crew T → ℕ
size_of crew = length (deques_of crew.set)

-- the record is closed, or there is nothing to do
abbrev pub IsOver : Declarations → Plan → History → Type 0
IsOver S Z P = (is_closed S Z P || is_idle S Z P) ≡ true

-- the job is the one that worker k has in hand
abbrev pub IsHand : System → History → ℕ → jobs.Job → Type 0
IsHand S P k job = (job.w ≡ k) × IsInHand S P job

-- what is left is what worker k has in hand
abbrev pub HasLeft : System → History → ℕ → Left → Type 0
HasLeft S P k Nothing = IsFree P k
HasLeft S P k (Job job) = IsHand S P k job
HasLeft S P k (Ran ran) = IsHand S P k ran.job

-- these are the n workers of a crew, in order of number, and P holds of each
abbrev pub EachOf : ℕ → (Worker → Type 0) → List Worker → Type 0
EachOf n P workers = (length workers ≡ n) × ((k : ℕ) (w : Worker) → slice_get workers k ≡ Some w → (w.seat.number ≡ k) × P w)

module _ {T : Type 0} (system : T → System) (plan : T → Plan) (history : T → History) where
  -- the seat, the lot and the count are the worker's, and what the seat has seen is legal and begins with the given record
  pub record IsAt (crew : Crew T) (w : Worker) : Type 0 where
    pub table : w.seat.badge.table_id ≡ crew.exchange.table.shared.table_id
    pub about : (view w.seat).own.about ≡ about_of system plan (given_to crew.exchange)
    pub taken : (view w.seat).taken ≡ []
    pub right : (view w.seat).next ≡ right_for (size_of crew) w.seat.number
    pub start : (view w.seat).own.from ≡ length (history (given_to crew.exchange))
    pub later : IsLater (seen_by w) (history (given_to crew.exchange))
    pub legal : ∥ IsLegal (system (given_to crew.exchange)).declarations (plan (given_to crew.exchange)) (seen_by w) ∥₁
    pub lot : IsLotOf crew.set w.lot
    pub number : w.lot.number ≡ w.seat.number
    pub counted : IsCounted w

  -- what is left with the worker is what it has in hand
  abbrev pub IsWorker : Crew T → Worker → Type 0
  IsWorker crew w = IsAt crew w × HasLeft (system (given_to crew.exchange)) (seen_by w) w.seat.number w.left

  -- the worker has no job in hand
  abbrev pub IsIdle : Crew T → Worker → Type 0
  IsIdle crew w = IsAt crew w × (w.left ≡ Nothing) × IsFree (seen_by w) w.seat.number

  -- the worker is about to end this job
  abbrev pub IsBusy : Crew T → Worker → jobs.Job → Type 0
  IsBusy crew w job = IsAt crew w × (w.left ≡ Nothing) × IsHand (system (given_to crew.exchange)) (seen_by w) w.seat.number job

  -- the worker has no job in hand, and has seen that nothing is left to do or the record is closed
  abbrev pub IsDone : Crew T → Worker → Type 0
  IsDone crew w = IsIdle crew w × IsOver (system (given_to crew.exchange)).declarations (plan (given_to crew.exchange)) (seen_by w)

  -- where a step left the worker
  abbrev pub Stepped : Crew T → Worker → Step → Type 0
  Stepped crew w Again = IsIdle crew w
  Stepped crew w Over = IsDone crew w
  Stepped crew w Memory = IsWorker crew w
