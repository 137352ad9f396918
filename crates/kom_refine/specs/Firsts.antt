-- What a component takes next, read off the state.
use Rattle.std.specs.Prelude.{◌≡◌, ℕ, Bool, true, false, ◌||◌, ◌&&◌, ◌==◌, nat_lt, not, if◌then◌else◌, Option, Some, None}
use Rattle.std.specs.Option.{option_map_or, option_and_then}
use Rattle.kom_base.specs.declared.numbers.Dir.{Dir}
use Rattle.kom_base.specs.declared.numbers.EntryNo.{EntryNo}
use Rattle.kom_base.specs.declared.numbers.Half.{Half}
use Rattle.kom_base.specs.Numbers.{is_plus, is_earlier}
use Rattle.kom_base.specs.Lists.{first}
use Rattle.kom_lang.specs.Declarations.{Declarations}
use Rattle.kom_record.specs.declared.item.Item.TheVariants.{Arrival}
use Rattle.kom_record.specs.Entries.{History, acts}
use Rattle.kom_record.specs.Channels.{destination}
use Rattle.kom_record.specs.Queues.{Envelope, waiting}
use Rattle.kom_record.specs.Ready.{next}
use Rattle.kom_refine.specs.States.{Queue, State}

-- the first number of a queue that c may take from
abbrev pub front_for : ℕ → Option Queue → Option EntryNo
front_for c q = option_and_then (λ q. if option_map_or (λ r. r == c) q.receiver false then first q.numbers else None) q

-- a number at the front of a direction
pub record Front : Type 0 where
  pub chan : ℕ
  pub dir : Dir
  pub no : EntryNo

-- the direction y, e stands before x, d: its channel is lesser, or it is the Plus direction of the same
abbrev pub stands_before : ℕ → Dir → ℕ → Dir → Bool
stands_before y e x d = nat_lt y x || (y == x && is_plus e && not (is_plus d))

-- No front that c may take has an earlier number, and each in a direction that stands before has a
-- later one. None where there is no front for c.
abbrev pub IsFirst : State → ℕ → Option Front → Type 0
IsFirst m c None = (y : ℕ) (e : Dir) → front_for c (m.queues y e) ≡ None
IsFirst m c (Some f) =
    (front_for c (m.queues f.chan f.dir) ≡ Some f.no)
    × ((y : ℕ) (e : Dir) (k : EntryNo) → front_for c (m.queues y e) ≡ Some k
    → (is_earlier k f.no ≡ false) × (stands_before y e f.chan f.dir ≡ true → is_earlier f.no k ≡ true))

-- where no control item waits for c, it takes the event of that front next, or nothing
abbrev pub TakesNext : Declarations → History → ℕ → Option Front → Type 0
TakesNext S P c None = next S P c ≡ None
TakesNext S P c (Some f) =
    (half : Half) × (envelope : Envelope) × (destination S (acts P) f.chan f.dir ≡ Some half) × (first (waiting S P f.chan f.dir) ≡ Some envelope)
    × (envelope.no ≡ f.no) × (next S P c ≡ Some (Arrival f.chan f.dir f.no half.port half.side envelope.event envelope.back))
