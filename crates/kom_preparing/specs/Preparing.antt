-- What the end of a handling needs, and the room for it.
use Rattle.std.specs.Prelude.{◌≡◌, ◌≤◌, ◌+◌, true, ℕ, List, length, Option, Some, vec_capacity}
use Rattle.kom_base.specs.declared.numbers.Dir.{Dir}
use Rattle.kom_lang.specs.declared.body.Body.{Body}
use Rattle.kom_lang.specs.declared.body.Effect.{Effect}
use Rattle.kom_record.specs.declared.item.Item.{Item}
use Rattle.kom_record.specs.declared.entry.Outcome.TheVariants as outcome
use Rattle.kom_record.specs.declared.entry.Entry.TheVariants.{Did}
use Rattle.kom_record.specs.Answers.{job_of}
use Rattle.kom_record.specs.Bodies.{body_at, nearest}
use Rattle.kom_record.specs.Entries.{TakenJob, acts}
use Rattle.kom_record.specs.Instances.{alive}
use Rattle.kom_record.specs.Reaction.{Reacts}
use Rattle.kom_entering.specs.Lists.{IsEntering, numbers_into}
use Rattle.kom_nursery.specs.Nurseries.{broods_of}
use Rattle.kom_puts.specs.Puts.{HasRoomToFollow, dumped_in, is_above}
use Rattle.kom_doing.specs.Marks.{marks_of}
use Rattle.kom_doing.specs.Rooms.{HasRoomLeft, PutsHaveRoom}
use Rattle.kom_state.specs.Parts.{queue_spare, state_of}
use Rattle.kom_turns.specs.declared.run.Run.{Run}
use Rattle.kom_turns.specs.Runs.{history_of, system_of}
use Rattle.kom_preparing.specs.declared.prepared.Prepared.{Prepared}

-- the job of w is one of c, which lives, has the body `old` and reacts so
pub record IsReacted (w c : ℕ) (hand : TakenJob) (old body : Body) (effects : List Effect) (v : Run) : Type 0 where
  pub found : job_of (history_of v) w ≡ Some hand
  pub component : hand.c ≡ c
  pub body_is : body_at (system_of v) (history_of v) c ≡ Some old
  pub lives : alive (system_of v) (acts (history_of v)) c ≡ true
  pub reacts : Reacts (system_of v) old hand.item (outcome.Done body effects)

-- so it is with the job of the Took at a position, which took this item, and some body
pub record WasReacted (w c took : ℕ) (item : Item) (body : Body) (effects : List Effect) (v : Run) : Type 0 where
  pub hand : TakenJob
  pub old : Body
  pub took_is : hand.took ≡ took
  pub item_is : hand.item ≡ item
  pub reacted : IsReacted w c hand old body effects v

-- so it is with the job of some worker
abbrev pub HasReacted : ℕ → ℕ → Item → Body → List Effect → Run → Type 0
HasReacted c took item body effects v = ∥ ((w : ℕ) × WasReacted w c took item body effects v) ∥₁

-- Who is told of a fault of c; what the entry of the handling brings into channels and out; and what its effects
-- create.
pub record IsWorkedOut (c took : ℕ) (item : Item) (body : Body) (effects : List Effect) (p : Prepared) (v : Run) : Type 0 where
  pub told : p.told ≡ nearest (system_of v) (history_of v) c
  pub entering : (w : ℕ) (to : Option ℕ) (places : List ℕ) → IsEntering (system_of v) (history_of v) (Did w c took (outcome.Done body effects) to places) p.entering
  pub broods : p.nursery ≡ broods_of (system_of v) (acts (history_of v)) c item effects

-- there is room in the run for all that was worked out
pub record HasRoomToEnd (c : ℕ) (item : Item) (body : Body) (effects : List Effect) (p : Prepared) (v : Run) : Type 0 where
  pub above : is_above (state_of v.state) c p.told ≡ true
  pub few : length body.slots ≤ 256
  pub dumped : p.dumped ≡ dumped_in (state_of v.state) c body item
  pub follow : HasRoomToFollow 1 (state_of v.state) c body item v.state
  pub come : (x : ℕ) (d : Dir) → length (numbers_into p.entering.comings x d) ≤ queue_spare v.state x d
  pub room : HasRoomLeft c item p.told effects p.nursery v.marks.bound v.state
  pub puts : PutsHaveRoom (1 + length effects) c item p.told effects v.state
  pub kept : 1 ≤ v.kept.spare
  pub going : length p.entering.goings ≤ v.env.spare
  pub busy : v.marks.bound ≤ v.busy.bound

-- there is room in the list for all whom the end of the handling marks
abbrev pub HasRoomForWoken : ℕ → Item → Body → List Effect → Prepared → Run → Type 0
HasRoomForWoken c item body effects p v = (((1 + length body.slots) + length p.entering.comings) + marks_of (system_of v) (acts (history_of v)) c item effects) + 1 ≤ vec_capacity p.woken
