-- What the end of a job leaves of a run.
use Rattle.std.specs.Prelude.{◌≡◌, ℕ, ◌∷◌, ◌==◌, if◌then◌else◌, false, None}
use Rattle.std.specs.Arc.{arc_value}
use Rattle.std.specs.Ordering.{nat_cmp, is_eq}
use Rattle.kom_index.specs.Entries.{value_of}
use Rattle.kom_index.specs.Stock.{entries}
use Rattle.kom_comps.specs.Members.{has}
use Rattle.kom_record.specs.declared.entry.Entry.{Entry}
use Rattle.kom_turns.specs.declared.run.Run.{Run}
use Rattle.kom_turns.specs.Runs.{history_of}

-- w has no job in hand any more, nor is there one of c, and the entry was added; all else is as before
pub record IsJobEnded (w c : ℕ) (e : Entry) (v n : Run) : Type 0 where
  pub system : arc_value n.system ≡ arc_value v.system
  pub history : history_of n ≡ e ∷ history_of v
  pub state : n.state ≡ v.state
  pub env : n.env ≡ v.env
  pub jobs : (q : ℕ) → value_of nat_cmp q (entries n.jobs) ≡ (if is_eq (nat_cmp q w) then None else value_of nat_cmp q (entries v.jobs))
  pub busy : (d : ℕ) → has n.busy d ≡ (if d == c then false else has v.busy d)
  pub busy_bound : n.busy.bound ≡ v.busy.bound
  pub runnable : n.runnable ≡ v.runnable
  pub marks : n.marks ≡ v.marks
  pub counts : n.counts ≡ v.counts
