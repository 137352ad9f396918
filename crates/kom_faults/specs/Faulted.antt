-- What the end of a faulted handling makes of a run.
use Rattle.std.specs.Prelude.{◌≡◌, ◌||◌, true, ℕ, Option, Some, None, is_none}
use Rattle.std.specs.Arc.{arc_value}
use Rattle.kom_index.specs.Stock.{entries}
use Rattle.kom_comps.specs.Members.{has}
use Rattle.kom_record.specs.declared.entry.Outcome.{Outcome}
use Rattle.kom_record.specs.declared.entry.Outcome.TheVariants as outcome
use Rattle.kom_record.specs.Bodies.{catches}
use Rattle.kom_refine.specs.States.{State}
use Rattle.kom_refine.specs.Steps.{ArePut, IsEnded}
use Rattle.kom_state.specs.Parts.{state_of}
use Rattle.kom_state.specs.Rooms.{HasNoLess, IsSame}
use Rattle.kom_marks.specs.Marking.{IsMarked}
use Rattle.kom_puts.specs.Laws.{fault_to}
use Rattle.kom_puts.specs.Puts.{items_for}
use Rattle.kom_turns.specs.declared.run.Run.{Run}
use Rattle.kom_turns.specs.Runs.{history_of, system_of}

-- the number of a fault
abbrev pub fault_of : Outcome → Option ℕ
fault_of (outcome.Fault n) = Some n
fault_of o = None

-- the two are the same but for the room in the record, the jobs and the state
pub record IsButForRooms (v n : Run) : Type 0 where
  pub system : arc_value n.system ≡ arc_value v.system
  pub history : history_of n ≡ history_of v
  pub state : IsSame (state_of v.state) (state_of n.state)
  pub room : HasNoLess v.state n.state
  pub env : n.env ≡ v.env
  pub jobs : entries n.jobs ≡ entries v.jobs
  pub busy : n.busy ≡ v.busy
  pub runnable : n.runnable ≡ v.runnable
  pub marks : n.marks ≡ v.marks
  pub counts : n.counts ≡ v.counts

-- the fault was put to who is told of it, and c is passive; where nobody is told a fault is unhandled
pub record IsFaultNoted (c number : ℕ) (told : Option (ℕ × ℕ)) (v n : Run) : Type 0 where
  pub system : arc_value n.system ≡ arc_value v.system
  pub history : history_of n ≡ history_of v
  pub between : State
  pub put : ArePut (items_for (fault_to told number)) (state_of v.state) between
  pub ended : IsEnded (catches (system_of v)) c (outcome.Fault number) between (state_of n.state)
  pub outs : n.state.numbers.outs ≡ v.state.numbers.outs
  pub widths : n.state.numbers.counts ≡ v.state.numbers.counts
  pub env : n.env ≡ v.env
  pub jobs : entries n.jobs ≡ entries v.jobs
  pub busy : n.busy ≡ v.busy
  pub runnable : n.runnable ≡ v.runnable
  pub marks : IsMarked 2 v.marks n.marks (state_of v.state) (state_of n.state)
  pub marked : has n.marks c ≡ true
  pub steps : n.counts.steps ≡ v.counts.steps
  pub instants : n.counts.instants ≡ v.counts.instants
  pub unhandled : n.counts.unhandled ≡ (v.counts.unhandled || is_none told)
  pub queued : n.counts.queued ≡ v.counts.queued
  pub out : n.counts.out ≡ v.counts.out
