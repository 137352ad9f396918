-- Whether a subscribed handler runs, by the kinds of item.
use Rattle.std.specs.Prelude.{ℕ, Bool, true, false, ◌&&◌, ◌==◌, List}
use Rattle.kom_base.specs.declared.values.Event.{Event}
use Rattle.kom_events.specs.declared.event_types.EventRow.{EventRow}
use Rattle.kom_events.specs.Kin.{kin}
use Rattle.kom_lang.specs.declared.stmt.On.{On}
use Rattle.kom_lang.specs.declared.stmt.On.TheVariants as on
use Rattle.kom_record.specs.declared.item.Control.{Control}
use Rattle.kom_record.specs.declared.item.Control.TheVariants as control
use Rattle.kom_record.specs.declared.item.Item.{Item}
use Rattle.kom_record.specs.declared.item.Item.TheVariants as item

-- for a control item: a handler of its kind
abbrev pub handles_control : Control → On → Bool
handles_control control.Start on.Start = true
handles_control control.Stop on.Stop = true
handles_control (control.Fault slot number) (on.Fault a b) = true
handles_control (control.Dumped slot vs) (on.Dumped a) = true
handles_control c o = false

-- for an event at the outside of a port: one of that port for the event's type or an ancestor of it
abbrev pub handles_event : List EventRow → ℕ → Event → On → Bool
handles_event events port event (on.Event kind q) = port == q && kin events event.kind kind
handles_event events port event o = false

-- whether the item is an Init
abbrev pub is_init_item : Item → Bool
is_init_item (item.Control (control.Init vs)) = true
is_init_item i = false
