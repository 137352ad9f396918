-- The rule of the exchange's table, and what each step tells.
-- Numbers of the words are those of the history modulo 2^64. The numbers here do not wrap.
use Rattle.std.specs.Prelude.{◌≡◌, ◌≢◌, ◌⊎◌, ℕ, ◌+◌, ◌%◌, ◌≤◌, Bool, true, false, ◌==◌, ◌&&◌, nat_le, nat_lt, List, [], ◌∷◌, ◌++◌, length, Option, Some, None}
use mathlib.Core.Option.{some, none}
use mathlib.Core.Option as maybe
use lib.ListN.{get_elem?}
use Rattle.atomic_table.specs.Table.{State, Me, rest}
use Rattle.kom_record.specs.Entries.{History, in_hand}
use Rattle.kom_record.specs.Views.{positions}
use Rattle.kom_exchange.specs.Later.{Abouts, IsLater, hand_of}
use Rattle.kom_exchange.specs.declared.view.Own.{Own}
use Rattle.kom_exchange.specs.declared.view.Stage.{Stage}
use Rattle.kom_exchange.specs.declared.view.Stage.TheVariants.{Idle, Waits, Turn}
use Rattle.kom_exchange.specs.declared.view.View.{View}

-- a fact of each
abbrev pub Every : {A : Type 0} → (A → Type 0) → List A → Type 0
Every P [] = Unit {0}
Every P (x ∷ xs) = P x × Every P xs

-- the sum over a list
abbrev pub total : {A : Type 0} → (A → ℕ) → List A → ℕ
total f [] = 0
total f (x ∷ xs) = f x + total f xs

-- 1 where it is true
abbrev pub one_if : Bool → ℕ
one_if true = 1
one_if false = 0

-- ---- what is read off a view

abbrev pub parts_if : Bool → Own → List Own → List Own
parts_if true o os = []
parts_if false o os = o ∷ os

-- its own, and what it took over
abbrev pub parts : View → List Own
parts v = parts_if v.spent v.own v.taken

abbrev pub part_count : View → ℕ
part_count v = length (parts v)

abbrev pub turns_of : View → ℕ
turns_of v = total (λ o. o.turns) (parts v)

abbrev pub has_number : ℕ → View → ℕ
has_number x v = total (λ o. one_if (o.number == x)) (parts v)

abbrev pub out_at : Stage → ℕ
out_at Idle = 0
out_at (Waits t) = 1
out_at (Turn t) = 1

abbrev pub out_of : View → ℕ
out_of v = out_at v.stage

abbrev pub ticket_at : ℕ → Stage → ℕ
ticket_at t Idle = 0
ticket_at t (Waits u) = one_if (u == t)
ticket_at t (Turn u) = one_if (u == t)

abbrev pub has_ticket : ℕ → View → ℕ
has_ticket t v = ticket_at t v.stage

abbrev pub right_at : Option ℕ → ℕ
right_at None = 0
right_at (Some n) = 1

abbrev pub right_of : View → ℕ
right_of v = right_at v.next

abbrev pub next_of : Option ℕ → ℕ
next_of None = 0
next_of (Some n) = n

abbrev pub one_more : Option ℕ → Option ℕ
one_more None = None
one_more (Some n) = Some (n + 1)

abbrev pub first_of : Option ℕ → Option ℕ → Option ℕ
first_of None n = n
first_of (Some n) m = Some n

-- 1 where t is from a on and below b
abbrev pub between : ℕ → ℕ → ℕ → ℕ
between a b t = one_if (nat_le a t && nat_lt t b)

abbrev pub below : ℕ → ℕ → ℕ
below x n = one_if (nat_lt x n)

-- ---- the rule

-- `mine` is what the number has in `seen`, and in the whole history
pub record OwnOk (history : History) (from : ℕ) (about : Abouts) (o : Own) : Type 0 where
  pub about_is : o.about ≡ about
  pub from_is : o.from ≡ from
  pub seen : IsLater history o.seen
  pub fair : o.mine ≡ positions o.number o.from o.seen
  pub complete : o.mine ≡ positions o.number o.from history
  pub hand : hand_of o.about o.number o.seen ≡ hand_of o.about o.number history

pub record ViewOk (history : History) (from : ℕ) (about : Abouts) (serving next : ℕ) (is_out : Type 0) (v : View) : Type 0 where
  pub each : Every (OwnOk history from about) (parts v)
  pub spent : v.spent ≡ true → (v.stage ≡ Idle) × (v.next ≡ None)
  pub turn : (t : ℕ) → v.stage ≡ Turn t → (t ≡ serving) × (v.own.seen ≡ history) × is_out
  pub right : (n : ℕ) → v.next ≡ Some n → n ≡ next

abbrev pub Homes : Type 0 → Type 0
Homes T = List (maybe.Option (Option T))

module _ {T : Type 0} where
  abbrev pub Gone : Homes T → Type 0
  Gone homes = homes ≡ none ∷ []

  -- the slot is out with a seat whose turn it is
  abbrev pub IsOut : Homes T → List View → Type 0
  IsOut homes views = Gone homes × ((j : ℕ) × (v : View) × (t : ℕ) × (get_elem? views j ≡ some v) × (v.stage ≡ Turn t))

module _ {T : Type 0} (entries : T → History) (about : T → Abouts) where
  -- the station is at home and stands for the history
  abbrev pub IsHome : T → History → Homes T → Type 0
  IsHome given history homes = (x : T) × (homes ≡ some (Some x) ∷ []) × (entries x ≡ history) × (about x ≡ about given)

  pub record Kept (given : T) (start : ℕ) (s : State (Option T) View) : Type 0 where
    pub start_is : start ≡ length (entries given)
    pub history : History
    pub serving : ℕ
    pub ticket : ℕ
    pub next : ℕ
    pub words : s.words ≡ length history % 18446744073709551616 ∷ ticket % 18446744073709551616 ∷ serving % 18446744073709551616 ∷ []
    pub begun : IsLater history (entries given)
    pub idle_start : in_hand (entries given) ≡ []
    pub each_view : (j : ℕ) (v : View) → get_elem? s.views j ≡ some v → ViewOk history (length (entries given)) (about given) serving next (Gone s.homes) v
    pub turns : total turns_of s.views ≡ serving
    pub out : serving + total out_of s.views ≡ ticket
    pub tickets : (t : ℕ) → total (has_ticket t) s.views ≡ between serving ticket t
    pub numbers : (x : ℕ) → total (has_number x) s.views ≡ below x next
    pub counted : total part_count s.views ≡ next
    pub few : next ≤ 4294967296
    pub right : total right_of s.views ≡ 1
    pub others : (x : ℕ) → next ≤ x → (positions x (length (entries given)) history ≡ []) × (hand_of (about given) x history ≡ None)
    pub station : IsHome given history s.homes ⊎ IsOut s.homes s.views

-- ---- views

abbrev pub first_view : History → Abouts → View
first_view seen about = record {
  own = record { number = 0; about = about; «from» = length seen; seen = seen; mine = []; turns = 0 };
  taken = [];
  spent = false;
  stage = Idle;
  next = Some 1;
}

abbrev pub waiting : View → ℕ → View
waiting v t = record v { stage = Waits t }

abbrev pub seated : View → ℕ → History → View
seated v t seen = record v { stage = Turn t; own = record v.own { seen = seen } }

abbrev pub told : View → History → View
told v seen = record v { own = record v.own { seen = seen; mine = positions v.own.number v.own.from seen } }

abbrev pub left : View → View
left v = record v { stage = Idle; own = record v.own { turns = v.own.turns + 1 } }

abbrev pub numbered : View → View
numbered v = record v { next = one_more v.next }

abbrev pub newcomer : View → View
newcomer v = record {
  own = record { number = next_of v.next; about = v.own.about; «from» = v.own.from; seen = v.own.seen; mine = []; turns = 0 };
  taken = [];
  spent = false;
  stage = Idle;
  next = None;
}

abbrev pub joined : View → View → View
joined v w = record v { taken = v.taken ++ parts w; next = first_of v.next w.next }

abbrev pub spent_view : View
spent_view = record {
  own = record { number = 0; about = None; «from» = 0; seen = []; mine = []; turns = 0 };
  taken = [];
  spent = true;
  stage = Idle;
  next = None;
}

-- the one view of a seat
abbrev pub sole : List View → View
sole [] = spent_view
sole (v ∷ vs) = v

-- what it has is what its number has in what it saw
abbrev pub IsFair : View → Type 0
IsFair v = v.own.mine ≡ positions v.own.number v.own.from v.own.seen

-- ---- what the steps tell

abbrev Seated : Type 0 → Type 0
Seated T = Me (Option T) View

module _ {T : Type 0} where
  abbrev pub drew : Seated T → ℕ → Seated T → Type 0
  drew m n m' = (t : ℕ) × (n ≡ t % 18446744073709551616) × (m'.0 ≡ waiting m.0 t) × (m'.1 ≡ m.1)

  abbrev pub passed : Seated T → Seated T → Type 0
  passed m m' = (m'.0 ≡ left m.0) × (m'.1 ≡ rest m.1)

module _ {T : Type 0} (entries : T → History) where
  abbrev pub counted : Seated T → Seated T → Type 0
  counted m m' = (x : T) → m.1 ≡ (0, Some x) ∷ [] → (m'.0 ≡ told m.0 (entries x)) × (m'.1 ≡ m.1)

module _ {T : Type 0} (entries : T → History) (about : T → Abouts) where
  -- the station was taken, and all that it stands for was seen
  abbrev pub Took : Seated T → ℕ → Seated T → Type 0
  Took m t m' = (x : T) × (m'.1 ≡ (0, Some x) ∷ m.1) × (m'.0 ≡ seated m.0 t (entries x)) × (about x ≡ m.0.own.about)
      × IsLater (entries x) m.0.own.seen × (m.0.own.mine ≡ positions m.0.own.number m.0.own.from (entries x)) × (hand_of m.0.own.about m.0.own.number m.0.own.seen ≡ hand_of m.0.own.about m.0.own.number (entries x)) × (m.0.own.from ≤ length (entries x))

  abbrev pub looked : Seated T → ℕ → Seated T → Type 0
  looked m n m' = (t : ℕ) → m.0.stage ≡ Waits t → (n ≡ t % 18446744073709551616 → Took m t m') × (n ≢ t % 18446744073709551616 → m' ≡ m)
