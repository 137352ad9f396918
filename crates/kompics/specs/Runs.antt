-- What comes of a run.
use Rattle.std.specs.Prelude.{◌≡◌, ◌<◌, ℕ, true, ◌&&◌, if◌then◌else◌}
use Rattle.std.specs.List.{AllByRecursion}
use Rattle.kom_lang.specs.Declarations.{Declarations}
use Rattle.kom_record.specs.declared.plan.Plan.{Plan}
use Rattle.kom_record.specs.Entries.{History}
use Rattle.kom_record.specs.Legal.{IsLegal}
use Rattle.kom_record.specs.Ready.{has_unhandled, is_closed, is_finished, has_more}
use Rattle.kom_record.specs.Simulated.{IsSimulated}
use Rattle.kom_record.specs.Views.{worker_of}
use Rattle.kom_trace.specs.Counting.{IsTallyOf}
use Rattle.kompics.specs.declared.running.Ran.{Ran}
use Rattle.kompics.specs.Promises.{Promises}

-- who drives a run: one worker, in the order of the simulation, or so many workers, in whatever order
pub data Drive : Type 0 where
  simulated : Drive
  by_workers : ℕ → Drive

-- a record that n workers may keep: whichever it is, it is legal and came to its end, and its entries
-- are by workers with numbers below n
pub record IsMadeBy (n : ℕ) (S : Declarations) (Z : Plan) (R : History) : Type 0 where
  pub legal : IsLegal S Z R
  pub finished : is_finished S Z R ≡ true
  pub workers : AllByRecursion (λ e. worker_of e < n) R

-- a record that a run with this drive may keep; that of the simulation is the only one
abbrev pub MayKeep : Drive → Declarations → Plan → History → Type 0
MayKeep simulated S Z R = IsSimulated S Z R
MayKeep (by_workers n) S Z R = IsMadeBy n S Z R

-- the record of a run of a system under a plan, and what it promises
pub record IsRecordOf (drive : Drive) (S : Declarations) (Z : Plan) (R : History) : Type 0 where
  pub kept : ∥ MayKeep drive S Z R ∥₁
  pub promises : ∥ Promises S R ∥₁

-- how a run ended, as a status: 3 where nobody was told of a fault, else 4 where the record is closed
-- though something is left to do, else 0
abbrev pub status_of : Declarations → Plan → History → ℕ
status_of S Z R = if has_unhandled S R then 3 else (if is_closed S Z R && has_more S Z R then 4 else 0)

-- a run of this system and this plan that came to its end
pub record IsRan (drive : Drive) (S : Declarations) (Z : Plan) (ran : Ran) : Type 0 where
  pub record_is : IsRecordOf drive S Z ran.kept.history
  pub tally_is : IsTallyOf S Z ran.kept.history ran.tally
  pub status_is : ran.status ≡ status_of S Z ran.kept.history
