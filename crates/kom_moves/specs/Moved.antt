-- What a move of time makes of a run.
use Rattle.std.specs.Prelude.{◌≡◌, ◌+◌, ◌≤◌, ◌∷◌, ℕ, List, length}
use Rattle.std.specs.Arc.{arc_value}
use Rattle.kom_env.specs.Outside.{moved_on}
use Rattle.kom_index.specs.Stock.{entries}
use Rattle.kom_marks.specs.Marking.{MarksOne}
use Rattle.kom_marks.specs.Settling.{IsUnsettled}
use Rattle.kom_record.specs.declared.entry.Release.{Release}
use Rattle.kom_record.specs.declared.entry.Entry.TheVariants.{Moved}
use Rattle.kom_record.specs.Legal.{MayMove}
use Rattle.kom_refine.specs.Steps.{HaveCome}
use Rattle.kom_state.specs.Facts.{HoldsTogether}
use Rattle.kom_state.specs.Parts.{state_of}
use Rattle.kom_times.specs.Following.{IsButForRoom}
use Rattle.kom_turns.specs.declared.run.Run.{Run}
use Rattle.kom_turns.specs.Runs.{Stands, history_of, system_of}
use Rattle.kom_moves.specs.Bringing.{brought}

-- the entry was added, what it releases came into the channels, the environment passed to it, and the root is marked
pub record IsMoveNoted (w t : ℕ) (released : List Release) (v n : Run) : Type 0 where
  pub system : arc_value n.system ≡ arc_value v.system
  pub history : history_of n ≡ Moved w t released ∷ history_of v
  pub state : HaveCome (brought v.state.numbers.outs (length (history_of v)) released) (state_of v.state) (state_of n.state)
  pub outs : n.state.numbers.outs ≡ v.state.numbers.outs
  pub widths : n.state.numbers.counts ≡ v.state.numbers.counts
  pub env : IsButForRoom (moved_on v.env) n.env
  pub jobs : entries n.jobs ≡ entries v.jobs
  pub busy : n.busy ≡ v.busy
  pub runnable : n.runnable ≡ v.runnable
  pub marked : MarksOne 0 v.marks n.marks
  pub few : length n.marks.list ≤ length v.marks.list + 1
  pub marks_bound : n.marks.bound ≡ v.marks.bound
  pub steps : n.counts.steps ≡ v.counts.steps
  pub instants : n.counts.instants + 1 ≡ v.counts.instants
  pub unhandled : n.counts.unhandled ≡ v.counts.unhandled
  pub queued : n.counts.queued ≡ v.counts.queued + length released
  pub out : n.counts.out ≡ v.counts.out

-- a run in which a move was noted that may come stands for the record with it, but for who is runnable
abbrev pub MovesUnsettle : Type 0
MovesUnsettle = (w t : ℕ) (released : List Release) (v n : Run)
    → Stands v → HoldsTogether v.state → MayMove (system_of v) v.env.plan (history_of v) t released → IsMoveNoted w t released v n
    → IsUnsettled (system_of v) v.env.plan (history_of v) (Moved w t released) n
