-- What a call asks and tells.
use Rattle.std.specs.Prelude.{◌≡◌, ◌≢◌, ◌⊎◌, ℕ, ◌+◌, ◌%◌, ◌≤◌, false, List, [], ◌∷◌, ◌++◌, length, Option}
use Rattle.atomic_table.specs.declared.shared.Seat.{Seat}
use Rattle.kom_record.specs.declared.entry.Entry.{Entry}
use Rattle.kom_record.specs.declared.answers.Taken.{Taken}
use Rattle.kom_record.specs.declared.answers.Taken.TheVariants as taken
use Rattle.kom_record.specs.declared.answers.Committed.{Committed}
use Rattle.kom_record.specs.declared.answers.Committed.TheVariants as committed
use Rattle.kom_record.specs.declared.answers.Rest.{Rest}
use Rattle.kom_record.specs.declared.answers.Rest.TheVariants as resting
use Rattle.kom_record.specs.Entries.{History}
use Rattle.kom_record.specs.Views.{worker_of, positions}
use Rattle.kom_exchange.specs.Later.{Abouts, IsLater, hand_of}
use Rattle.kom_exchange.specs.declared.view.Stage.TheVariants.{Idle, Turn}
use Rattle.kom_exchange.specs.declared.view.View.{View}
use Rattle.kom_exchange.specs.Rule.{seated, waiting, IsFair}

-- the number of entries that an answer tells of
abbrev pub count_taken : Taken → ℕ
count_taken (taken.Job j) = 1
count_taken taken.Nothing = 0
count_taken taken.Closed = 0
count_taken taken.Memory = 0

abbrev pub count_committed : Committed → ℕ
count_committed (committed.Wakes n) = 1
count_committed (committed.Memory r) = 0

abbrev pub count_rest : Rest → ℕ
count_rest (resting.Moved n) = 1
count_rest (resting.Ready c) = 0
count_rest resting.Waiting = 0
count_rest resting.End = 0
count_rest resting.Closed = 0
count_rest resting.Memory = 0

-- what a station grew by
abbrev pub Grows : Abouts → ℕ → ℕ → History → History → Type 0
Grows about w n old new = ((n ≡ 0) × (new ≡ old)) ⊎ ((n ≡ 1) × ((e : Entry) × (worker_of e ≡ w) × (new ≡ e ∷ old) × ((x : ℕ) → x ≢ w → hand_of about x new ≡ hand_of about x old)))

module _ {T : Type 0} where
  abbrev pub IsIdleAt : Seat (Option T) View → Type 0
  IsIdleAt p = (p.me.1 ≡ []) × (p.me.0.stage ≡ Idle) × (p.me.0.spent ≡ false)

  abbrev pub HasTurn : Seat (Option T) View → Type 0
  HasTurn p = ((t : ℕ) × (p.me.0.stage ≡ Turn t)) × (p.me.0.spent ≡ false)

  abbrev pub IsSame : Seat (Option T) View → Seat (Option T) View → Type 0
  IsSame p q = (q.table_id ≡ p.table_id) × (q.id ≡ p.id)

  -- it has drawn a ticket, which is this number modulo 2^64
  abbrev pub WaitsWith : ℕ → Seat (Option T) View → Seat (Option T) View → Type 0
  WaitsWith ticket p q = IsSame p q × (q.me.1 ≡ []) × ((t : ℕ) × (ticket ≡ t % 18446744073709551616) × (q.me.0 ≡ waiting p.me.0 t))

module _ {T : Type 0} (entries : T → History) (about : T → Abouts) where
  -- the turn has come, and all that the station stands for was seen
  pub record Enters (v : View) (x : T) (w : View) : Type 0 where
    pub ticket : ℕ
    pub now : w ≡ seated v ticket (entries x)
    pub about_is : about x ≡ v.own.about
    pub later : IsLater (entries x) v.own.seen
    pub mine : v.own.mine ≡ positions v.own.number v.own.from (entries x)
    pub hand : hand_of v.own.about v.own.number v.own.seen ≡ hand_of v.own.about v.own.number (entries x)
    pub start : v.own.from ≤ length (entries x)

-- one position more, where an entry was added
abbrev pub Mine : ℕ → History → List ℕ → List ℕ → Type 0
Mine n h old new = ((n ≡ 0) × (new ≡ old)) ⊎ ((n ≡ 1) × (new ≡ old ++ length h ∷ []))

-- A call added n entries. At its turn it had seen h, and its station answered as `how` says of h and of what it has seen afterwards
pub record Called (n : ℕ) (how : History → History → Type 0) (v w : View) : Type 0 where
  pub number : w.own.number ≡ v.own.number
  pub start : w.own.from ≡ v.own.from
  pub about : w.own.about ≡ v.own.about
  pub right : w.next ≡ v.next
  pub taken : w.taken ≡ v.taken
  pub turns : w.own.turns ≡ v.own.turns + 1
  pub later : IsLater w.own.seen v.own.seen
  pub fair : IsFair w
  pub h : History
  pub seen : IsLater h v.own.seen
  pub answer : how h w.own.seen
  pub mine : Mine n h v.own.mine w.own.mine
