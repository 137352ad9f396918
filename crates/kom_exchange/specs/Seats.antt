-- The seats of an exchange, at the beginning and at the end.
use Rattle.std.specs.Prelude.{◌≡◌, ◌⊎◌, ℕ, ◌≤◌, ◌<◌, ◌==◌, false, if◌then◌else◌, List, [], ◌∷◌, length, Option, Some, None, slice_get, vec_capacity}
use Rattle.atomic_table.specs.declared.shared.Seat as table
use Rattle.atomic_table.specs.Seated.{TableId}
use Rattle.kom_record.specs.declared.answers.Taken.{Taken}
use Rattle.kom_record.specs.declared.answers.Taken.TheVariants as taken
use Rattle.kom_record.specs.declared.answers.Committed.{Committed}
use Rattle.kom_record.specs.declared.answers.Committed.TheVariants as committed
use Rattle.kom_record.specs.Entries.{History}
use Rattle.kom_record.specs.Answers.{IsFree, IsInHand}
use Rattle.kom_system.specs.declared.system.System.{System}
use Rattle.kom_exchange.specs.Later.{Abouts, IsLater}
use Rattle.kom_exchange.specs.declared.view.Own.{Own}
use Rattle.kom_exchange.specs.declared.view.Stage.TheVariants.{Idle}
use Rattle.kom_exchange.specs.declared.view.View.{View}
use Rattle.kom_exchange.specs.declared.exchange.Exchange.{Exchange}
use Rattle.kom_exchange.specs.declared.exchange.Seat.{Seat}
use Rattle.kom_exchange.specs.declared.begin.Begun.{Begun}
use Rattle.kom_exchange.specs.declared.begin.Begun.TheVariants.{Made, Memory}
use Rattle.kom_exchange.specs.Rule.{parts, part_count, sole}

-- what the seat knows
abbrev pub view : Seat → View
view s = sole s.badge.views

-- the station that `begin` was given
abbrev pub given_to : {T A : Type 0} → Exchange T A → T
given_to e = e.table.shared.key.given.value

abbrev pub IsSeatOf : {T A : Type 0} → (T → Abouts) → Exchange T A → Seat → Type 0
IsSeatOf about e s = (s.badge.table_id ≡ e.table.shared.table_id) × ((view s).own.about ≡ about (given_to e))

-- an answered job is the seat's, and in its hand; else its hand is empty
abbrev pub HasJob : System → Taken → Seat → Type 0
HasJob S (taken.Job j) s = (j.w ≡ s.number) × IsInHand S (view s).own.seen j
HasJob S taken.Nothing s = IsFree (view s).own.seen s.number
HasJob S taken.Closed s = IsFree (view s).own.seen s.number
HasJob S taken.Memory s = IsFree (view s).own.seen s.number

-- the job of the seat is ended, and its hand is empty; or the job came back, and is still in its hand
abbrev pub HasEnded : System → Committed → Seat → Type 0
HasEnded S (committed.Wakes woken) s = IsFree (view s).own.seen s.number
HasEnded S (committed.Memory ran) s = (ran.job.w ≡ s.number) × IsInHand S (view s).own.seen ran.job

abbrev pub IsSameSeat : Seat → Seat → Type 0
IsSameSeat s t = (t.badge.table_id ≡ s.badge.table_id) × (t.number ≡ s.number)

-- what holds of a seat over any calls
abbrev pub GoesOn : Seat → Seat → Type 0
GoesOn s t = IsSameSeat s t × ((view t).own.about ≡ (view s).own.about) × ((view t).taken ≡ (view s).taken) × ((view t).next ≡ (view s).next) × IsLater (view t).own.seen (view s).own.seen

-- the first of n seats has the right to number
abbrev pub right_for : ℕ → ℕ → Option ℕ
right_for n k = if k == 0 then Some n else None

abbrev pub start_view : History → Abouts → ℕ → ℕ → View
start_view seen about n k = record {
  own = record { number = k; about = about; «from» = length seen; seen = seen; mine = []; turns = 0 };
  taken = [];
  spent = false;
  stage = Idle;
  next = right_for n k;
}

abbrev pub Among : Own → List Own → Type 0
Among o [] = ⊥
Among o (p ∷ ps) = (o ≡ p) ⊎ Among o ps

-- the k-th of n seats that have seen this record, and made no call
abbrev pub IsFresh : TableId → History → Abouts → ℕ → ℕ → Seat → Type 0
IsFresh id seen about n k s = (s.badge.table_id ≡ id) × (s.number ≡ k) × (view s ≡ start_view seen about n k)

abbrev pub AreFresh : TableId → History → Abouts → ℕ → List Seat → Type 0
AreFresh id seen about n seats = (length seats ≡ n) × ((k : ℕ) (s : Seat) → slice_get seats k ≡ Some s → IsFresh id seen about n k s)

-- the k-th of n seats, whatever calls it made
abbrev pub IsOneOf : TableId → ℕ → ℕ → Seat → Type 0
IsOneOf id n k s = (s.badge.table_id ≡ id) × (s.number ≡ k) × ((view s).taken ≡ []) × ((view s).next ≡ right_for n k)

-- these are all the seats, in order
abbrev pub AreAll : TableId → List Seat → Type 0
AreAll id seats = (0 < length seats) × ((k : ℕ) (s : Seat) → slice_get seats k ≡ Some s → IsOneOf id (length seats) k s)

-- the place has what these seats had
pub record AreJoined {T : Type 0} (id : TableId) (seats : List Seat) (p : table.Seat (Option T) View) : Type 0 where
  pub table : p.table_id ≡ id
  pub holds : p.me.1 ≡ []
  pub stage : p.me.0.stage ≡ Idle
  pub live : p.me.0.spent ≡ false
  pub right : p.me.0.next ≡ Some (length seats)
  pub count : part_count p.me.0 ≡ length seats
  pub each : (k : ℕ) (s : Seat) → slice_get seats k ≡ Some s → Among (view s).own (parts p.me.0)

module _ {T : Type 0} (entries : T → History) (about : T → Abouts) where
  abbrev pub IsMade : T → ℕ → Begun T → Type 0
  IsMade station n (Made e seats) = (given_to e ≡ station) × (n ≤ vec_capacity seats) × AreFresh e.table.shared.table_id (entries station) (about station) n seats.items
  IsMade station n (Memory x) = x ≡ station
