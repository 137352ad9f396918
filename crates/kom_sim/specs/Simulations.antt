-- What a simulation, and each turn of it, comes to.
use Rattle.std.specs.Prelude.{◌≡◌, ◌<◌, ℕ, ◌+◌, ◌-◌, List, ◌∷◌, [], Some, true}
use Rattle.std.specs.List.{count_by}
use Rattle.kom_lang.specs.Declarations.{Declarations}
use Rattle.kom_system.specs.declared.system.System.{System}
use Rattle.kom_record.specs.declared.plan.Plan.{Plan}
use Rattle.kom_record.specs.declared.entry.Entry.TheVariants.{Took}
use Rattle.kom_record.specs.declared.job.Job.{Job}
use Rattle.kom_record.specs.Entries.{History, in_hand}
use Rattle.kom_record.specs.Ready.{is_took, is_moved, is_closed}
use Rattle.kom_record.specs.Simulated.{longest_ready, IsInOrder, IsSimulated}
use Rattle.kom_record.specs.Legal.{MayTake}
use Rattle.kom_record.specs.Answers.{IsInHand}
use Rattle.kom_sim.specs.Order.{IsLineOf}
use Rattle.kom_sim.specs.declared.simulation.Simulated.{Simulated}
use Rattle.kom_sim.specs.declared.simulation.Simulated.TheVariants.{Ended, Memory}
use Rattle.kom_sim.specs.declared.turns.Found.{Found}
use Rattle.kom_sim.specs.declared.turns.Found.TheVariants as found
use Rattle.kom_sim.specs.declared.turns.Turn.{Turn}
use Rattle.kom_sim.specs.declared.turns.Turn.TheVariants as turn

-- how many items and steps of time the plan still allows
abbrev pub left : Plan → History → ℕ
left Z P = (Z.steps - count_by is_took P) + (Z.instants - count_by is_moved P)

-- Between two turns: no job is in hand, the record so far is in the order of the simulation, and
-- the line has those that are ready.
pub record IsBetween (S : Declarations) (Z : Plan) (P : History) (line : List ℕ) : Type 0 where
  pub idle : in_hand P ≡ []
  pub in_order : IsInOrder S Z P
  pub line_of : IsLineOf S Z P line

-- The job was just taken, as the simulation has it: `before` is the record before its Took, and the
-- line has those that are ready there, this component first.
pub record IsTaken (S : System) (Z : Plan) (P : History) (job : Job) (line : List ℕ) : Type 0 where
  pub before : History
  pub took : P ≡ Took 0 job.c job.item ∷ before
  pub between : IsBetween S.declarations Z before (job.c ∷ line)
  pub may : MayTake S.declarations Z before 0 job.c job.item
  pub longest : longest_ready S.declarations Z before ≡ Some job.c
  pub hand : IsInHand S P job

-- what the line had, where the record goes from P to Q
abbrev pub FindsJob : System → Plan → History → Found → History → List ℕ → Type 0
FindsJob S Z P (found.Job job) Q line = (t : IsTaken S Z Q job line) × (t.before ≡ P)
FindsJob S Z P found.Nothing Q line = (Q ≡ P) × IsBetween S.declarations Z P [] × (line ≡ [])
FindsJob S Z P found.Closed Q line = (Q ≡ P) × (is_closed S.declarations Z P ≡ true)
FindsJob S Z P found.Memory Q line = Unit {0}

-- one turn, after which the record is Q; where it goes on, less than `bound` is left to do
abbrev pub AnswersTurn : Declarations → Plan → ℕ → Turn → History → List ℕ → Type 0
AnswersTurn S Z bound turn.Again Q line = IsBetween S Z Q line × (left Z Q < bound)
AnswersTurn S Z bound turn.Ended Q line = ∥ IsSimulated S Z Q ∥₁
AnswersTurn S Z bound turn.Memory Q line = Unit {0}

module _ {T : Type 0} (system : T → System) (plan : T → Plan) where
  -- the station is one of the same system and plan
  abbrev pub IsSameRun : T → T → Type 0
  IsSameRun given t = (system t ≡ system given) × (plan t ≡ plan given)

module _ {T : Type 0} (system : T → System) (plan : T → Plan) (history : T → History) where
  -- what came of the station: one that stands for the record of the simulation, or want of memory
  abbrev pub IsSimulation : T → Simulated T → Type 0
  IsSimulation given (Ended t) = IsSameRun system plan given t × ∥ IsSimulated (system given).declarations (plan given) (history t) ∥₁
  IsSimulation given (Memory t) = IsSameRun system plan given t
