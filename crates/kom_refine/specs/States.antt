-- What the parts of a run's state are seen as: the instances, the channels, the queues of their
-- directions, the control queues, and the bodies. Each map gives none where there is nothing.
use Rattle.std.specs.Prelude.{ℕ, Bool, List, Option}
use Rattle.kom_base.specs.declared.numbers.Dir.{Dir}
use Rattle.kom_base.specs.declared.numbers.Dir.TheVariants.{Plus, Minus}
use Rattle.kom_base.specs.declared.numbers.Half.{Half}
use Rattle.kom_base.specs.declared.numbers.EntryNo.{EntryNo}
use Rattle.kom_lang.specs.declared.body.Body.{Body}
use Rattle.kom_record.specs.declared.item.Control.{Control as ControlItem}

-- an instance: its component type, and its parent with the slot there, then the parent's ancestry
pub record Node : Type 0 where
  pub kind : ℕ
  pub ancestry : List (ℕ × ℕ)

-- a channel: the halves at its ends, and whether it is held
pub record Link : Type 0 where
  pub plus : Option Half
  pub minus : Option Half
  pub held : Bool

-- one direction of a channel: the numbers of the events that wait in it, and the component that may
-- take the first of them
pub record Queue : Type 0 where
  pub numbers : List EntryNo
  pub receiver : Option ℕ

-- the control items that wait for an instance, whether it is active, and whether a fault handler
-- of it is subscribed
pub record ControlRow : Type 0 where
  pub items : List ControlItem
  pub active : Bool
  pub catches : Bool

-- the state: all instances that were created, in order of number, and who lives; the occupant of a
-- slot of a component; the living channels; the directions of living channels that do not go to the
-- environment; the control rows and bodies of the living instances
pub record State : Type 0 where
  pub nodes : List Node
  pub living : ℕ → Bool
  pub child : ℕ → ℕ → Option ℕ
  pub links : ℕ → Option Link
  pub queues : ℕ → Dir → Option Queue
  pub controls : ℕ → Option ControlRow
  pub bodies : ℕ → Option Body

abbrev pub end_of : Link → Dir → Option Half
end_of l Plus = l.plus
end_of l Minus = l.minus
