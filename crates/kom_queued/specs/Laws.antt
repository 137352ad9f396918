-- The laws of how many events wait, step by step.
use Rattle.std.specs.Prelude.{◌≡◌, ◌<◌, ◌≤◌, ℕ, ◌+◌, Bool, true, List, length, is_some}
use Rattle.kom_base.specs.declared.numbers.Dir.{Dir}
use Rattle.kom_base.specs.declared.numbers.EntryNo.{EntryNo}
use Rattle.kom_lang.specs.Declarations.{Declarations}
use Rattle.kom_record.specs.Entries.{Act, History, acts}
use Rattle.kom_record.specs.Instances.{Instance}
use Rattle.kom_record.specs.Channels.{channels}
use Rattle.kom_record.specs.Ready.{queued}
use Rattle.kom_refine.specs.Points.{StandsAt, start_of}
use Rattle.kom_refine.specs.States.{Link, State}
use Rattle.kom_refine.specs.Steps.{HaveCome, IsCreated, IsRelinked, IsRemoved, SameQueues}
use Rattle.kom_state.specs.Steps.{into_one}
use Rattle.kom_queued.specs.Counting.{waiting_below, waiting_in}

-- what waits after a record is what waits in the queues of its channels
abbrev pub QueuedByState : Type 0
QueuedByState = (S : Declarations) (P : History) (m : State) → StandsAt S (start_of P) m → queued S P ≡ waiting_below m (length (channels S (acts P)))

-- a step that leaves the queues, as one that puts control items or ends a handling
abbrev pub SameQueuesHoldAsMany : Type 0
SameQueuesHoldAsMany = (m n : State) (k : ℕ) → SameQueues m n → waiting_below n k ≡ waiting_below m k

-- each queue is of a living channel
abbrev pub QueuesHaveLinks : State → Type 0
QueuesHaveLinks m = (x : ℕ) (d : Dir) → is_some (m.queues x d) ≡ true → is_some (m.links x) ≡ true

-- a change of channels
abbrev pub RelinksHoldAsMany : Type 0
RelinksHoldAsMany = (names : ℕ → Bool) (change : Link → Link) (m n : State) (k : ℕ) → IsRelinked names change m n → QueuesHaveLinks m → waiting_below n k ≡ waiting_below m k

-- one event that comes into a queue
abbrev pub ComingsAddOne : Type 0
ComingsAddOne = (x : ℕ) (d : Dir) (no : EntryNo) (m n : State) (k : ℕ) → HaveCome (into_one x d no) m n → is_some (m.queues x d) ≡ true → x < k → waiting_below n k ≡ waiting_below m k + 1

-- a creation, whose first channel has the number `chans`
abbrev pub CreationsAddNone : Type 0
CreationsAddNone = (S : Declarations) (done : List Act) (count chans : ℕ) (news : List Instance) (m n : State) (k : ℕ) → IsCreated S done count chans news m n → chans ≤ k → waiting_below n k ≡ waiting_below m chans

-- a removal takes what waits in the channels that end
abbrev pub RemovalsTakeTheirs : Type 0
RemovalsTakeTheirs = (dies : ℕ → Bool) (c slot : ℕ) (m n : State) (k : ℕ) → IsRemoved dies c slot m n → waiting_below n k + waiting_in m dies k ≡ waiting_below m k
