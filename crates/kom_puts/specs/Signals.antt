-- What is passed on to children.
use Rattle.std.specs.Prelude.{Option, Some, None}
use Rattle.kom_record.specs.declared.item.Control.{Control as ControlItem}
use Rattle.kom_record.specs.declared.item.Control.TheVariants as control
use Rattle.kom_record.specs.declared.item.Item.{Item}
use Rattle.kom_record.specs.declared.item.Item.TheVariants.{Control}
use Rattle.kom_puts.specs.declared.children.Signal.{Signal}
use Rattle.kom_puts.specs.declared.children.Signal.TheVariants.{Start, Stop}

-- the control item of it
abbrev pub item_of : Signal → ControlItem
item_of Start = control.Start
item_of Stop = control.Stop

-- what an item passes on
abbrev pub signal_in : Item → Option Signal
signal_in (Control control.Start) = Some Start
signal_in (Control control.Stop) = Some Stop
signal_in item = None
