-- The laws of how many events wait in the channels.
use Rattle.std.specs.Prelude.{◌≡◌, ℕ, ◌+◌, List, length}
use Rattle.kom_lang.specs.Declarations.{Declarations}
use Rattle.kom_lang.specs.declared.body.Effect.{Effect}
use Rattle.kom_record.specs.declared.item.Item.{Item}
use Rattle.kom_record.specs.Channels.{channels}
use Rattle.kom_record.specs.Entries.{History, acts}
use Rattle.kom_record.specs.Ready.{queued}
use Rattle.kom_entering.specs.declared.lists.Coming.{Coming}
use Rattle.kom_entering.specs.Lists.{numbers_into}
use Rattle.kom_refine.specs.Points.{Point, StandsAt, act_of, acts_at, start_of, with_act}
use Rattle.kom_refine.specs.States.{State}
use Rattle.kom_refine.specs.Steps.{HaveCome, IsEffect, SameQueues}
use Rattle.kom_coming.specs.Directions.{AreThere}
use Rattle.kom_waits.specs.Waits.{ends_by, waits_below}

-- what waits by the record is what waits in the queues of the state
abbrev pub QueuedIsBelow : Type 0
QueuedIsBelow = (S : Declarations) (P : History) (m : State) → StandsAt S (start_of P) m → queued S P ≡ waits_below m (length (channels S (acts P)))

-- as many more as came in, at any point of an entry
abbrev pub ComesCount : Type 0
ComesCount = (S : Declarations) (p : Point) (comings : List Coming) (m n : State)
    → StandsAt S p m → AreThere comings m → HaveCome (numbers_into comings) m n
    → waits_below n (length (channels S (acts_at p))) ≡ waits_below m (length (channels S (acts_at p))) + length comings

-- as many as before, where no queue is changed
abbrev pub SameQueuesCount : Type 0
SameQueuesCount = (m n : State) (k : ℕ) → SameQueues m n → waits_below n k ≡ waits_below m k

-- after an effect all but what ends with it
abbrev pub EffectsCount : Type 0
EffectsCount = (S : Declarations) (p : Point) (c : ℕ) (item : Item) (e : Effect) (m n : State)
    → StandsAt S p m → IsEffect S p c item e m n
    → waits_below n (length (channels S (acts_at (with_act S p (act_of c item e))))) + ends_by S (acts_at p) c e m ≡ waits_below m (length (channels S (acts_at p)))
