-- What settling makes of the marks, and whom it finds woken.
use Rattle.std.specs.Prelude.{◌≡◌, ◌≤◌, ◌∷◌, ◌==◌, ◌&&◌, ◌||◌, not, ℕ, suc, Bool, true, false, List, [], length}
use Rattle.std.specs.Arc.{arc_value}
use Rattle.std.specs.Option.{option_map}
use Rattle.std.specs.Ordering.{nat_cmp}
use Rattle.kom_base.specs.Lists.{holds_number}
use Rattle.kom_index.specs.Entries.{value_of}
use Rattle.kom_index.specs.Stock.{entries}
use Rattle.kom_comps.specs.Members.{Members, has}
use Rattle.kom_lang.specs.Declarations.{Declarations}
use Rattle.kom_record.specs.declared.plan.Plan.{Plan}
use Rattle.kom_record.specs.declared.entry.Entry.{Entry}
use Rattle.kom_record.specs.Answers.{job_of, wakes}
use Rattle.kom_record.specs.Entries.{History}
use Rattle.kom_record.specs.Legal.{IsLegal}
use Rattle.kom_record.specs.Plans.{PlanFits}
use Rattle.kom_record.specs.Ready.{is_busy, runnable}
use Rattle.kom_refine.specs.Points.{StandsAt, start_of}
use Rattle.kom_refine.specs.States.{State}
use Rattle.kom_state.specs.Parts.{IsOf, state_of}
use Rattle.kom_times.specs.Following.{Follows}
use Rattle.kom_turns.specs.declared.counts.Counts.{Counts}
use Rattle.kom_turns.specs.declared.run.Run.{Run}
use Rattle.kom_turns.specs.Runs.{AreCounted, IsRunnableBy, Stands, held_of, history_of, system_of}
use Rattle.kom_marks.specs.Marking.{IsMarked}

-- the numbers rise, and none is below a bound
abbrev pub RisesFrom : ℕ → List ℕ → Type 0
RisesFrom low [] = Unit {0}
RisesFrom low (c ∷ cs) = (low ≤ c) × RisesFrom (suc c) cs

-- Who is marked is runnable or not by the state, all others are as before, and none is marked then. Those are
-- woken that were marked and are runnable and were not before, by rising number; nobody where the run is closed.
pub record IsSettled (m : State) (busy : Members) (closed : Bool) (old new marks left : Members) (woken : List ℕ) : Type 0 where
  pub unmarked : (c : ℕ) → has left c ≡ false
  pub again : (c : ℕ) → has marks c ≡ true → IsRunnableBy m busy c (has new c)
  pub others : (c : ℕ) → has marks c ≡ false → has new c ≡ has old c
  pub rise : RisesFrom 0 woken
  pub woken_are : (c : ℕ) → holds_number woken c ≡ (not closed && (has marks c && (has new c && not (has old c))))
  pub bound : new.bound ≡ old.bound
  pub marks_bound : left.bound ≡ marks.bound

abbrev pub closed_by : Counts → Bool
closed_by n = n.unhandled || n.steps == 0 || n.instants == 0

-- a run whose marks were settled, and is else the same
pub record IsRunSettled (v n : Run) (woken : List ℕ) : Type 0 where
  pub system : arc_value n.system ≡ arc_value v.system
  pub kept : n.kept ≡ v.kept
  pub state : n.state ≡ v.state
  pub env : n.env ≡ v.env
  pub jobs : n.jobs ≡ v.jobs
  pub busy : n.busy ≡ v.busy
  pub counts : n.counts ≡ v.counts
  pub settled : IsSettled (state_of v.state) v.busy (closed_by v.counts) v.runnable n.runnable v.marks n.marks woken

-- The run stands for the record with one entry more, but for its runnable components: they are those of the
-- record before, and who is not marked is as runnable as then.
pub record IsUnsettled (S : Declarations) (Z : Plan) (P : History) (e : Entry) (v : Run) : Type 0 where
  pub declarations : system_of v ≡ S
  pub plan : v.env.plan ≡ Z
  pub history : history_of v ≡ e ∷ P
  pub fits : PlanFits S Z
  pub legal : IsLegal S Z (e ∷ P)
  pub state : StandsAt S (start_of (e ∷ P)) (state_of v.state)
  pub numbers : IsOf S v.state
  pub outside : Follows S Z (e ∷ P) v.env
  pub jobs : (w : ℕ) → value_of nat_cmp w (entries v.jobs) ≡ option_map held_of (job_of (e ∷ P) w)
  pub busy : (c : ℕ) → has v.busy c ≡ is_busy S (e ∷ P) c
  pub runnable_were : (c : ℕ) → has v.runnable c ≡ runnable S P c
  pub others_stay : (c : ℕ) → has v.marks c ≡ false → runnable S (e ∷ P) c ≡ runnable S P c
  pub busy_bound : length (state_of v.state).nodes ≤ v.busy.bound
  pub runnable_bound : length (state_of v.state).nodes ≤ v.runnable.bound
  pub marks_bound : length (state_of v.state).nodes ≤ v.marks.bound
  pub marks_within : v.marks.bound ≤ v.runnable.bound
  pub counts_are : AreCounted S Z (e ∷ P) v.counts

-- once settled, it stands for the record, and those are woken whom the entry makes ready
abbrev pub SettledStands : Type 0
SettledStands = (S : Declarations) (Z : Plan) (P : History) (e : Entry) (v n : Run) (woken : List ℕ)
    → IsUnsettled S Z P e v → IsRunSettled v n woken → Stands n × (woken ≡ wakes S Z P (e ∷ P))

-- who is not marked, and is as busy as before an entry, is as runnable as before it
abbrev pub UnmarkedStay : Type 0
UnmarkedStay = (S : Declarations) (P : History) (e : Entry) (most : ℕ) (old new : Members) (m n : State)
    → StandsAt S (start_of P) m → StandsAt S (start_of (e ∷ P)) n → IsMarked most old new m n
    → ((c : ℕ) → has new c ≡ false → is_busy S (e ∷ P) c ≡ is_busy S P c)
    → (c : ℕ) → has new c ≡ false → runnable S (e ∷ P) c ≡ runnable S P c
