-- The laws of who is ready, and of the counts of a record, entry by entry.
use Rattle.std.specs.Prelude.{◌≡◌, ◌⊎◌, ◌≤◌, ◌<◌, ℕ, ◌+◌, ◌==◌, Bool, true, false, not, ◌&&◌, ◌||◌, if◌then◌else◌, List, [], ◌∷◌, length, Option, None, filter}
use Rattle.std.specs.List.{count_by, sum_by}
use Rattle.std.specs.Option.{option_map_or}
use Rattle.kom_base.specs.declared.numbers.Dir.{Dir}
use Rattle.kom_base.specs.declared.numbers.EntryNo.{EntryNo}
use Rattle.kom_lang.specs.Declarations.{Declarations}
use Rattle.kom_lang.specs.declared.body.Body.{Body}
use Rattle.kom_record.specs.declared.item.Control.{Control as ControlItem}
use Rattle.kom_record.specs.declared.item.Item.{Item}
use Rattle.kom_record.specs.declared.plan.Plan.{Plan}
use Rattle.kom_record.specs.declared.entry.Outcome.{Outcome}
use Rattle.kom_record.specs.declared.entry.Entry.{Entry}
use Rattle.kom_record.specs.declared.entry.Entry.TheVariants.{Took, Did, Moved}
use Rattle.kom_record.specs.declared.entry.Release.{Release}
use Rattle.kom_record.specs.Answers.{wakes}
use Rattle.kom_record.specs.Entries.{Act, History}
use Rattle.kom_record.specs.Instances.{Instance}
use Rattle.kom_record.specs.Legal.{IsLegal}
use Rattle.kom_record.specs.Ready.{has_unhandled, instance_numbers, is_busy, is_closed, is_moved, is_took, is_unhandled, directions, out, queued, ready, runnable}
use Rattle.kom_record.specs.Time.{outgoing}
use Rattle.kom_refine.specs.Firsts.{Front, IsFirst}
use Rattle.kom_refine.specs.Points.{StandsAt, start_of}
use Rattle.kom_refine.specs.States.{Link, Queue, State}
use Rattle.kom_refine.specs.Steps.{ArePut, HaveCome, IsCreated, IsEnded, IsRelinked, IsRemoved, IsTaken, comes_by, is_below}
use Rattle.kom_wakes.specs.Work.{HasSameWork, IsNotReceiver, may_run}

-- ---- who is ready

-- who is runnable is read off the state: its control row, the first front for it, and whether a job of it is
-- in hand
abbrev pub RunnableByState : Type 0
RunnableByState = (S : Declarations) (P : History) (m : State) (c : ℕ) (f : Option Front)
    → StandsAt S (start_of P) m → IsFirst m c f → runnable S P c ≡ (may_run (m.controls c) f && not (is_busy S P c))

-- a component that has the same to do after an entry, and is as busy, is runnable after it exactly where it was before
abbrev pub UntouchedStay : Type 0
UntouchedStay = (S : Declarations) (P Q : History) (m n : State) (c : ℕ)
    → StandsAt S (start_of P) m → StandsAt S (start_of Q) n → HasSameWork m n c → is_busy S Q c ≡ is_busy S P c → runnable S Q c ≡ runnable S P c

-- the same work, by way of a third state
abbrev pub SameWorkGoesOn : Type 0
SameWorkGoesOn = ((m : State) (c : ℕ) → HasSameWork m m c) × ((m k n : State) (c : ℕ) → HasSameWork m k c → HasSameWork k n c → HasSameWork m n c)

-- ---- whom a step leaves

-- a step that puts nothing to c
abbrev pub PutsLeave : Type 0
PutsLeave = (put : ℕ → List ControlItem) (m n : State) (c : ℕ) → ArePut put m n → put c ≡ [] → HasSameWork m n c

-- a step that brings nothing to where c receives
abbrev pub ComingsLeave : Type 0
ComingsLeave = (came : ℕ → Dir → List EntryNo) (m n : State) (c : ℕ)
    → HaveCome came m n → ((x : ℕ) (d : Dir) → (came x d ≡ []) ⊎ IsNotReceiver c (m.queues x d)) → HasSameWork m n c

-- a step on channels from which c receives neither before nor after it
abbrev pub RelinksLeave : Type 0
RelinksLeave = (names : ℕ → Bool) (change : Link → Link) (m n : State) (c : ℕ)
    → IsRelinked names change m n → ((x : ℕ) (d : Dir) → names x ≡ true → IsNotReceiver c (m.queues x d) × IsNotReceiver c (n.queues x d)) → HasSameWork m n c

-- a step that ends others, with channels from which c does not receive
abbrev pub RemovalsLeave : Type 0
RemovalsLeave = (dies : ℕ → Bool) (p slot : ℕ) (m n : State) (c : ℕ)
    → IsRemoved dies p slot m n → is_below m p slot c ≡ false → ((x : ℕ) (d : Dir) → dies x ≡ true → IsNotReceiver c (m.queues x d)) → HasSameWork m n c

-- a step that creates others
abbrev pub CreationsLeave : Type 0
CreationsLeave = (S : Declarations) (done : List Act) (count chans : ℕ) (news : List Instance) (m n : State) (c : ℕ)
    → IsCreated S done count chans news m n → c < count → ((x : ℕ) (d : Dir) → chans ≤ x → m.queues x d ≡ None) → HasSameWork m n c

-- the end of a handling of another component
abbrev pub EndsLeave : Type 0
EndsLeave = (catches : Body → Bool) (d : ℕ) (o : Outcome) (m n : State) (c : ℕ) → IsEnded catches d o m n → (d == c) ≡ false → HasSameWork m n c

-- an item that another component takes, from where c does not receive
abbrev pub TakesLeave : Type 0
TakesLeave = (d : ℕ) (item : Item) (m n : State) (c : ℕ)
    → IsTaken d item m n → (d == c) ≡ false → ((x : ℕ) (e : Dir) → comes_by item x e ≡ true → IsNotReceiver c (m.queues x e)) → HasSameWork m n c

-- ---- who is busy

-- after a Took its component is busy, after a Moved nothing changed, and after a Did its component is not
pub record BusyAfter (S : Declarations) (P : History) (c : ℕ) : Type 0 where
  pub took : (w d : ℕ) (item : Item) → is_busy S (Took w d item ∷ P) c ≡ (d == c || is_busy S P c)
  pub moved : (w t : ℕ) (released : List Release) → is_busy S (Moved w t released ∷ P) c ≡ is_busy S P c
  pub did : (Z : Plan) (w d took : ℕ) (o : Outcome) (to : Option ℕ) (places : List ℕ) → IsLegal S Z (Did w d took o to places ∷ P)
      → is_busy S (Did w d took o to places ∷ P) c ≡ (if d == c then false else is_busy S P c)

abbrev pub BusyGoesOn : Type 0
BusyGoesOn = (S : Declarations) (P : History) (c : ℕ) → BusyAfter S P c

-- ---- who is woken

-- where each component that a test does not mark is as runnable as before, those that are woken are among
-- the marked
abbrev pub WakesAreMarked : Type 0
WakesAreMarked = (S : Declarations) (Z : Plan) (P : History) (e : Entry) (mark : ℕ → Bool)
    → ((c : ℕ) → mark c ≡ false → runnable S (e ∷ P) c ≡ runnable S P c)
    → wakes S Z P (e ∷ P) ≡ filter (λ c. mark c && (ready S Z (e ∷ P) c && not (ready S Z P c))) (instance_numbers S (e ∷ P))

-- ---- counts

-- one entry more counts as what it is
pub record CountsOneMore (S : Declarations) (Z : Plan) (P : History) (e : Entry) : Type 0 where
  pub took : count_by is_took (e ∷ P) ≡ count_by is_took P + (if is_took e then 1 else 0)
  pub moved : count_by is_moved (e ∷ P) ≡ count_by is_moved P + (if is_moved e then 1 else 0)
  pub unhandled : has_unhandled S (e ∷ P) ≡ (has_unhandled S P || is_unhandled S P e)
  pub closed : is_closed S Z P ≡ true → is_closed S Z (e ∷ P) ≡ true

abbrev pub CountsGoOn : Type 0
CountsGoOn = (S : Declarations) (Z : Plan) (P : History) (e : Entry) → CountsOneMore S Z P e

-- what went out is counted by the list of all that went out
abbrev pub OutIsCounted : Type 0
OutIsCounted = (S : Declarations) (P : History) → out S P ≡ length (outgoing S P)

-- what waits in the queue of a direction
abbrev pub queue_length : Option Queue → ℕ
queue_length q = option_map_or (λ q. length q.numbers) q 0

-- what waits in living channels is counted by the queues of the state
abbrev pub QueuedIsCounted : Type 0
QueuedIsCounted = (S : Declarations) (P : History) (m : State) → StandsAt S (start_of P) m → queued S P ≡ sum_by (λ x. queue_length (m.queues x.0 x.1)) (directions S P)
