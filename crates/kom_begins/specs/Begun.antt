-- Who is runnable at first.
use Rattle.std.specs.Prelude.{◌≡◌, ◌<◌, ◌≤◌, ℕ, false, [], length}
use Rattle.std.specs.Arc.{arc_value}
use Rattle.kom_comps.specs.Members.{Members, has}
use Rattle.kom_env.specs.Outside.{Outside}
use Rattle.kom_index.specs.Stock.{entries}
use Rattle.kom_lang.specs.Declarations.{Declarations}
use Rattle.kom_record.specs.declared.plan.Plan.{Plan}
use Rattle.kom_refine.specs.Points.{StandsAt, start_of}
use Rattle.kom_refine.specs.States.{State}
use Rattle.kom_state.specs.Parts.{IsOf, Parts, state_of}
use Rattle.kom_system.specs.declared.system.System.{System}
use Rattle.kom_times.specs.Following.{Follows}
use Rattle.kom_turns.specs.declared.counts.Counts.{Counts}
use Rattle.kom_turns.specs.declared.run.Run.{Run}
use Rattle.kom_turns.specs.Runs.{IsRunnableBy, history_of}

-- of each of so many components it is known whether it is runnable, and of no other one
pub record AreTested (m : State) (busy : Members) (count : ℕ) (found : Members) : Type 0 where
  pub below : (c : ℕ) → c < count → IsRunnableBy m busy c (has found c)
  pub above : (c : ℕ) → count ≤ c → has found c ≡ false

-- the state stands for the empty record
unfoldable pub IsStarted : Declarations → Parts → Type 0
IsStarted S v = StandsAt S (start_of []) (state_of v) × IsOf S v

-- nobody is busy or marked, and it is known who is runnable
pub record AreOpened (v : Parts) (busy runnable marks : Members) : Type 0 where
  pub free : (c : ℕ) → has busy c ≡ false
  pub unmarked : (c : ℕ) → has marks c ≡ false
  pub tested : AreTested (state_of v) busy (length (state_of v).nodes) runnable
  pub busy_bound : busy.bound ≡ length (state_of v).nodes
  pub runnable_bound : runnable.bound ≡ length (state_of v).nodes
  pub marks_bound : marks.bound ≡ length (state_of v).nodes

-- all steps and instants of the plan are left, and nothing else is counted
pub record AreFirst (Z : Plan) (n : Counts) : Type 0 where
  pub steps : n.steps ≡ Z.steps
  pub instants : n.instants ≡ Z.instants
  pub unhandled : n.unhandled ≡ false
  pub queued : n.queued ≡ 0
  pub out : n.out ≡ 0

-- all that a run begins with beside its record stands for the empty record
pub record IsOpening (S : Declarations) (Z : Plan) (state : Parts) (env : Outside) (busy runnable marks : Members) (n : Counts) : Type 0 where
  pub started : IsStarted S state
  pub follows : Follows S Z [] env
  pub plan_is : env.plan ≡ Z
  pub opened : AreOpened state busy runnable marks
  pub counts_are : AreFirst Z n

-- a run that is made of these, with an empty record and no job in hand
pub record IsJoined (system : System) (state : Parts) (env : Outside) (busy runnable marks : Members) (n : Counts) (v : Run) : Type 0 where
  pub system_is : arc_value v.system ≡ system
  pub history : history_of v ≡ []
  pub state_is : v.state ≡ state
  pub env_is : v.env ≡ env
  pub jobs : entries v.jobs ≡ []
  pub busy_is : v.busy ≡ busy
  pub runnable_is : v.runnable ≡ runnable
  pub marks_is : v.marks ≡ marks
  pub counts_is : v.counts ≡ n
