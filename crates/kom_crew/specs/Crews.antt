-- What a crew comes to.
use Rattle.std.specs.Prelude.{◌≡◌, ℕ, ◌<◌, ◌++◌, true, length}
use Rattle.std.specs.List.{AllByRecursion}
use Rattle.kom_system.specs.declared.system.System.{System}
use Rattle.kom_record.specs.declared.plan.Plan.{Plan}
use Rattle.kom_record.specs.Entries.{History}
use Rattle.kom_record.specs.Views.{worker_of}
use Rattle.kom_record.specs.Legal.{IsLegal}
use Rattle.kom_record.specs.Ready.{is_finished}
use Rattle.kom_exchange.specs.declared.close.Shut.{Shut}
use Rattle.kom_crew.specs.declared.run.Crewed.{Crewed}
use Rattle.kom_crew.specs.declared.run.Crewed.TheVariants.{Ended, Memory}

-- the record begins with the given one, and each entry after that is by one of the first n workers
abbrev pub IsContinued : ℕ → History → History → Type 0
IsContinued n given after = (newer : History) × (after ≡ newer ++ given) × AllByRecursion (λ e. worker_of e < n) newer

module _ {T : Type 0} (system : T → System) (plan : T → Plan) (history : T → History) where
  -- n workers drove the given station on: to one of the same system and plan
  pub record IsDriven (given : T) (n : ℕ) (t : T) : Type 0 where
    pub same_system : system t ≡ system given
    pub same_plan : plan t ≡ plan given
    pub legal : ∥ IsLegal (system given).declarations (plan given) (history t) ∥₁
    pub added : IsContinued n (history given) (history t)

  -- and its record is finished
  pub record IsEnded (given : T) (n : ℕ) (shut : Shut T) : Type 0 where
    pub driven : IsDriven given n shut.station
    pub finished : is_finished (system given).declarations (plan given) (history shut.station) ≡ true
    pub start : shut.from ≡ length (history given)

  -- what came of the given station
  abbrev pub IsCrewed : T → ℕ → Crewed T → Type 0
  IsCrewed given n (Ended shut) = IsEnded given n shut
  IsCrewed given n (Memory t) = IsDriven given n t
