-- What the end of a handling makes of a run.
use Rattle.std.specs.Prelude.{◌≡◌, ◌≤◌, ◌∷◌, ◌==◌, ◌&&◌, ◌||◌, if◌then◌else◌, true, false, ℕ, List, [], length, Option, Some, None, is_none}
use Rattle.std.specs.Arc.{arc_value}
use Rattle.std.specs.Option.{option_map}
use Rattle.std.specs.Ordering.{nat_cmp, is_eq}
use Rattle.kom_comps.specs.Members.{has}
use Rattle.kom_index.specs.Entries.{value_of}
use Rattle.kom_index.specs.Stock.{entries}
use Rattle.kom_lang.specs.declared.body.Body.{Body}
use Rattle.kom_lang.specs.declared.body.Effect.{Effect}
use Rattle.kom_record.specs.declared.entry.Outcome.{Outcome}
use Rattle.kom_record.specs.declared.entry.Outcome.TheVariants as outcome
use Rattle.kom_record.specs.declared.entry.Entry.{Entry}
use Rattle.kom_record.specs.declared.entry.Entry.TheVariants.{Did}
use Rattle.kom_record.specs.Answers.{did, job_of, recorded}
use Rattle.kom_record.specs.Bodies.{body_at, catches, nearest}
use Rattle.kom_record.specs.Entries.{TakenJob, acts}
use Rattle.kom_record.specs.Instances.{alive}
use Rattle.kom_record.specs.Legal.{IsLegal}
use Rattle.kom_record.specs.Queues.{unreached}
use Rattle.kom_record.specs.Reaction.{Reacts}
use Rattle.kom_record.specs.Ready.{out, queued}
use Rattle.kom_record.specs.Time.{outgoing_of}
use Rattle.kom_refine.specs.Points.{StandsAt, before_effects_of, with_effects}
use Rattle.kom_refine.specs.States.{State}
use Rattle.kom_refine.specs.Steps.{IsEnded}
use Rattle.kom_state.specs.Parts.{IsOf, state_of}
use Rattle.kom_times.specs.Following.{FollowsWith}
use Rattle.kom_wakes.specs.Work.{HasSameWork}
use Rattle.kom_marks.specs.Settling.{IsUnsettled}
use Rattle.kom_raised.specs.Raised.{is_raised}
use Rattle.kom_turns.specs.declared.run.Run.{Run}
use Rattle.kom_turns.specs.Runs.{Stands, history_of, system_of}

-- the entry with which w ends its job of c
abbrev pub done_by : (w c : ℕ) → TakenJob → Body → List Effect → Option ℕ → List ℕ → Entry
done_by w c hand body effects to places = Did w c hand.took (outcome.Done body effects) to places

-- The job of w is one of c that reacts so: c lives and has the body `old`. `near` is who is told of a fault of c,
-- `to` whom the entry tells, and `places` are its answers that reach nothing.
pub record IsDue (w c : ℕ) (hand : TakenJob) (old body : Body) (effects : List Effect) (near : Option (ℕ × ℕ)) (to : Option ℕ) (places : List ℕ) (v : Run) : Type 0 where
  pub found : job_of (history_of v) w ≡ Some hand
  pub component : hand.c ≡ c
  pub body_is : body_at (system_of v) (history_of v) c ≡ Some old
  pub lives : alive (system_of v) (acts (history_of v)) c ≡ true
  pub reacts : Reacts (system_of v) old hand.item (outcome.Done body effects)
  pub near_is : near ≡ nearest (system_of v) (history_of v) c
  pub told : to ≡ (if is_raised hand.item effects then option_map (λ q. q.0) near else None)
  pub unreached_are : places ≡ unreached (system_of v) (history_of v) (done_by w c hand body effects None [])

-- The entry is added, and the job is ended. The state stood after all effects of the handling, and then its body was
-- put in force; the environment has what went out; who is not marked has the same to do, and c is marked. There is
-- room for the marks of all who were created, and the counts are those of the record.
pub record IsDoneWith (w c : ℕ) (hand : TakenJob) (body : Body) (effects : List Effect) (near : Option (ℕ × ℕ)) (to : Option ℕ) (places : List ℕ) (v n : Run) : Type 0 where
  pub system : arc_value n.system ≡ arc_value v.system
  pub plan : n.env.plan ≡ v.env.plan
  pub history : history_of n ≡ done_by w c hand body effects to places ∷ history_of v
  pub between : State
  pub acted : StandsAt (system_of v) (with_effects (system_of v) (before_effects_of (system_of v) (history_of v) w c hand.took body effects to places) c hand.item effects) between
  pub ended : IsEnded (catches (system_of v)) c (outcome.Done body effects) between (state_of n.state)
  pub numbers : IsOf (system_of v) n.state
  pub outside : FollowsWith (system_of v) v.env.plan (history_of v) (outgoing_of (system_of v) (history_of v) (done_by w c hand body effects to places)) n.env
  pub jobs : (q : ℕ) → value_of nat_cmp q (entries n.jobs) ≡ (if is_eq (nat_cmp q w) then None else value_of nat_cmp q (entries v.jobs))
  pub busy : (d : ℕ) → has n.busy d ≡ (if d == c then false else has v.busy d)
  pub runnable : (d : ℕ) → has n.runnable d ≡ has v.runnable d
  pub leaves : (d : ℕ) → has n.marks d ≡ false → HasSameWork (state_of v.state) (state_of n.state) d
  pub marked : has n.marks c ≡ true
  pub busy_bound : length (state_of n.state).nodes ≤ n.busy.bound
  pub runnable_bound : length (state_of n.state).nodes ≤ n.runnable.bound
  pub marks_bound : length (state_of n.state).nodes ≤ n.marks.bound
  pub marks_within : n.marks.bound ≤ n.runnable.bound
  pub steps : n.counts.steps ≡ v.counts.steps
  pub instants : n.counts.instants ≡ v.counts.instants
  pub unhandled : n.counts.unhandled ≡ (v.counts.unhandled || (is_raised hand.item effects && is_none near))
  pub queued_are : n.counts.queued ≡ queued (system_of v) (done_by w c hand body effects to places ∷ history_of v)
  pub out_are : n.counts.out ≡ out (system_of v) (done_by w c hand body effects to places ∷ history_of v)

-- then the run stands for the record with the entry, but for its runnable components
abbrev pub DonesUnsettle : Type 0
DonesUnsettle = (w c : ℕ) (hand : TakenJob) (old body : Body) (effects : List Effect) (near : Option (ℕ × ℕ)) (to : Option ℕ) (places : List ℕ) (v n : Run)
    → Stands v → IsDue w c hand old body effects near to places v → IsDoneWith w c hand body effects near to places v n
    → IsUnsettled (system_of v) v.env.plan (history_of v) (done_by w c hand body effects to places) n

-- the record with the entry is legal
abbrev pub DonesAreLegal : Type 0
DonesAreLegal = (w c : ℕ) (hand : TakenJob) (old body : Body) (effects : List Effect) (near : Option (ℕ × ℕ)) (to : Option ℕ) (places : List ℕ) (v : Run)
    → Stands v → IsDue w c hand old body effects near to places v → IsLegal (system_of v) v.env.plan (done_by w c hand body effects to places ∷ history_of v)

-- and the entry is the one that ends the job, when this outcome is recorded
abbrev pub DonesAreRecorded : Type 0
DonesAreRecorded = (w c : ℕ) (hand : TakenJob) (old body : Body) (effects : List Effect) (near : Option (ℕ × ℕ)) (to : Option ℕ) (places : List ℕ) (v : Run) (o : Outcome)
    → IsDue w c hand old body effects near to places v → o ≡ outcome.Done body effects
    → done_by w c hand body effects to places ∷ history_of v ≡ did (system_of v) (history_of v) hand (recorded (alive (system_of v) (acts (history_of v)) c) o) ∷ history_of v
