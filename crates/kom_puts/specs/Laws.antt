-- The laws of what a fault puts, and of a state that only got more room.
use Rattle.std.specs.Prelude.{◌≡◌, ℕ, List, Option}
use Rattle.std.specs.Option.{option_map}
use Rattle.kom_lang.specs.Declarations.{Declarations}
use Rattle.kom_record.specs.declared.item.Control.{Control as ControlItem}
use Rattle.kom_record.specs.declared.item.Control.TheVariants.{Fault}
use Rattle.kom_record.specs.declared.entry.Entry.TheVariants.{Did}
use Rattle.kom_record.specs.declared.entry.Outcome.TheVariants as outcome
use Rattle.kom_record.specs.Entries.{History}
use Rattle.kom_record.specs.Bodies.{nearest}
use Rattle.kom_record.specs.Controls.{putting}
use Rattle.kom_refine.specs.Points.{Point, StandsAt}
use Rattle.kom_refine.specs.States.{State}
use Rattle.kom_refine.specs.Steps.{ArePut}
use Rattle.kom_state.specs.Rooms.{IsSame}
use Rattle.kom_puts.specs.Puts.{items_for}

abbrev pub SameStatesFollow : Type 0
SameStatesFollow = (S : Declarations) (p : Point) (m n : State) → IsSame m n → StandsAt S p m → StandsAt S p n

-- the fault with this number, for who is told of it
abbrev pub fault_to : Option (ℕ × ℕ) → ℕ → Option (ℕ × ControlItem)
fault_to told number = option_map (λ q. (q.0, Fault q.1 number)) told

abbrev pub FaultsArePut : Type 0
FaultsArePut = (S : Declarations) (P : History) (w c took number : ℕ) (to : Option ℕ) (places : List ℕ) (told : Option (ℕ × ℕ)) (m n : State)
    → told ≡ nearest S P c → ArePut (items_for (fault_to told number)) m n → ArePut (putting S P (Did w c took (outcome.Fault number) to places)) m n
