-- When what is kept of a run stands for its record.
use Rattle.std.specs.Prelude.{◌≡◌, ◌≤◌, ◌+◌, ◌*◌, ◌∷◌, ◌==◌, if◌then◌else◌, true, false, Bool, ℕ, length, Some}
use Rattle.std.specs.List.{count_by}
use Rattle.std.specs.Option.{option_map}
use Rattle.std.specs.Ordering.{nat_cmp, is_eq}
use Rattle.std.specs.Arc.{arc_value}
use Rattle.kom_index.specs.Entries.{value_of}
use Rattle.kom_index.specs.Stock.{entries}
use Rattle.kom_comps.specs.Members.{Members, has}
use Rattle.kom_lang.specs.Declarations.{Declarations}
use Rattle.kom_record.specs.declared.plan.Plan.{Plan}
use Rattle.kom_record.specs.declared.item.Item.{Item}
use Rattle.kom_record.specs.declared.entry.Entry.TheVariants.{Took}
use Rattle.kom_record.specs.Answers.{job_of}
use Rattle.kom_record.specs.Entries.{History, TakenJob, in_hand}
use Rattle.kom_record.specs.Legal.{IsLegal}
use Rattle.kom_record.specs.Plans.{PlanFits}
use Rattle.kom_record.specs.Ready.{has_unhandled, is_busy, is_moved, is_took, out, queued, runnable}
use Rattle.kom_refine.specs.Points.{StandsAt, start_of}
use Rattle.kom_refine.specs.States.{State}
use Rattle.kom_refine.specs.Steps.{IsTaken}
use Rattle.kom_state.specs.Parts.{IsOf, state_of}
use Rattle.kom_times.specs.Following.{Follows}
use Rattle.kom_turns.specs.Items.{events_in}
use Rattle.kom_turns.specs.declared.counts.Counts.{Counts}
use Rattle.kom_turns.specs.declared.run.Held.{Held}
use Rattle.kom_turns.specs.declared.run.Run.{Run}

-- a job in hand as it is kept
abbrev pub held_of : TakenJob → Held
held_of j = record { took = j.took; comp = j.c }

-- The counts are those of the record: each Took and each Moved uses up one. An entry is a Took whose
-- job is in hand, one of the two entries of a job that was ended, or a Moved.
pub record AreCounted (S : Declarations) (Z : Plan) (R : History) (n : Counts) : Type 0 where
  pub steps : count_by is_took R + n.steps ≡ Z.steps
  pub instants : count_by is_moved R + n.instants ≡ Z.instants
  pub unhandled : n.unhandled ≡ has_unhandled S R
  pub queued_are : n.queued ≡ queued S R
  pub out_are : n.out ≡ out S R
  pub entries : length R + length (in_hand R) ≡ 2 * count_by is_took R + count_by is_moved R

-- the declarations of its system, and its record
abbrev pub system_of : Run → Declarations
system_of v = (arc_value v.system).declarations

abbrev pub history_of : Run → History
history_of v = v.kept.history

-- The record R is legal for the plan, which fits the system. The state of the run and the environment
-- stand for the record; the jobs, the busy and the runnable components are those of the record, with
-- room for each component that was created, and none is marked; and so are the counts.
pub record StandsFor (S : Declarations) (Z : Plan) (R : History) (v : Run) : Type 0 where
  pub fits : PlanFits S Z
  pub legal : IsLegal S Z R
  pub state : StandsAt S (start_of R) (state_of v.state)
  pub numbers : IsOf S v.state
  pub outside : Follows S Z R v.env
  pub jobs : (w : ℕ) → value_of nat_cmp w (entries v.jobs) ≡ option_map held_of (job_of R w)
  pub busy : (c : ℕ) → has v.busy c ≡ is_busy S R c
  pub runnable_are : (c : ℕ) → has v.runnable c ≡ runnable S R c
  pub unmarked : (c : ℕ) → has v.marks c ≡ false
  pub busy_bound : length (state_of v.state).nodes ≤ v.busy.bound
  pub runnable_bound : length (state_of v.state).nodes ≤ v.runnable.bound
  pub marks_bound : length (state_of v.state).nodes ≤ v.marks.bound
  pub marks_within : v.marks.bound ≤ v.runnable.bound
  pub counts_are : AreCounted S Z R v.counts

abbrev pub Stands : Run → Type 0
Stands v = StandsFor (system_of v) v.env.plan (history_of v) v

-- what is kept stands for its record
abbrev pub IsRun : Run → Type 0
IsRun v = ∥ Stands v ∥₁

-- the two are the same but for the room in the record and the jobs
pub record IsButForRoom (v n : Run) : Type 0 where
  pub system : arc_value n.system ≡ arc_value v.system
  pub history : history_of n ≡ history_of v
  pub state : n.state ≡ v.state
  pub env : n.env ≡ v.env
  pub jobs : entries n.jobs ≡ entries v.jobs
  pub busy : n.busy ≡ v.busy
  pub runnable : n.runnable ≡ v.runnable
  pub marks : n.marks ≡ v.marks
  pub counts : n.counts ≡ v.counts

-- w took the item for c: it is taken out of where it waited, and the job is in hand
pub record IsNoted (w c : ℕ) (item : Item) (v n : Run) : Type 0 where
  pub system : arc_value n.system ≡ arc_value v.system
  pub history : history_of n ≡ Took w c item ∷ history_of v
  pub state : IsTaken c item (state_of v.state) (state_of n.state)
  pub numbers : n.state.numbers ≡ v.state.numbers
  pub env : n.env ≡ v.env
  pub jobs : (q : ℕ) → value_of nat_cmp q (entries n.jobs) ≡ (if is_eq (nat_cmp q w) then Some (record { took = length (history_of v); comp = c }) else value_of nat_cmp q (entries v.jobs))
  pub busy : (d : ℕ) → has n.busy d ≡ (if d == c then true else has v.busy d)
  pub busy_bound : n.busy.bound ≡ v.busy.bound
  pub runnable : (d : ℕ) → has n.runnable d ≡ (if d == c then false else has v.runnable d)
  pub runnable_bound : n.runnable.bound ≡ v.runnable.bound
  pub marks : n.marks ≡ v.marks
  pub steps : n.counts.steps + 1 ≡ v.counts.steps
  pub instants : n.counts.instants ≡ v.counts.instants
  pub unhandled : n.counts.unhandled ≡ v.counts.unhandled
  pub queued : n.counts.queued + events_in item ≡ v.counts.queued
  pub out : n.counts.out ≡ v.counts.out

-- the component is runnable, or is not, after each record for which the state stands, where the busy
-- components are those of the record
abbrev pub IsRunnableBy : State → Members → ℕ → Bool → Type 0
IsRunnableBy m busy c b = (S : Declarations) (R : History) → StandsAt S (start_of R) m → has busy c ≡ is_busy S R c → b ≡ runnable S R c
