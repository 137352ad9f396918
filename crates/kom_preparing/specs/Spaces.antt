-- A run in which room was made.
use Rattle.std.specs.Prelude.{◌≡◌, ◌≤◌, ℕ}
use Rattle.std.specs.Arc.{arc_value}
use Rattle.kom_index.specs.Stock.{entries}
use Rattle.kom_comps.specs.Members.{Members, has}
use Rattle.kom_state.specs.Parts.{state_of}
use Rattle.kom_state.specs.Rooms.{HasNoLess, IsSame}
use Rattle.kom_times.specs.Following.{IsButForRoom}
use Rattle.kom_turns.specs.declared.run.Run.{Run}
use Rattle.kom_turns.specs.Runs.{history_of}

-- the same components are in the sets, and the bound is no less
pub record IsWider (m n : Members) : Type 0 where
  pub same : (c : ℕ) → has n c ≡ has m c
  pub bound : m.bound ≤ n.bound

-- The two are the same but for the room in the record, the jobs, the state and the environment, and for the bounds
-- of the three sets.
pub record IsButForSpace (v n : Run) : Type 0 where
  pub system : arc_value n.system ≡ arc_value v.system
  pub history : history_of n ≡ history_of v
  pub state : IsSame (state_of v.state) (state_of n.state)
  pub room : HasNoLess v.state n.state
  pub env : IsButForRoom v.env n.env
  pub jobs : entries n.jobs ≡ entries v.jobs
  pub busy : IsWider v.busy n.busy
  pub runnable : IsWider v.runnable n.runnable
  pub marks : IsWider v.marks n.marks
  pub within : v.marks.bound ≤ v.runnable.bound → n.marks.bound ≤ n.runnable.bound
  pub counts : n.counts ≡ v.counts
