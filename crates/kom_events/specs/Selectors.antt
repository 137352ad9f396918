-- Which events a selector lets pass.
use Rattle.std.specs.Prelude.{ℤ, pos, int_le, int_lt, Bool, not, ◌||◌, List, slice_get, unwrap_or}
use Rattle.std.specs.List.{list_all}
use Rattle.kom_base.specs.declared.values.Event.{Event}
use Rattle.kom_base.specs.Numbers.{same_int}
use Rattle.kom_events.specs.declared.event_types.EventRow.{EventRow}
use Rattle.kom_events.specs.declared.selector.Op.{Op}
use Rattle.kom_events.specs.declared.selector.Op.TheVariants.{Eq, Ne, Lt, Le, Gt, Ge}
use Rattle.kom_events.specs.declared.selector.Test.{Test}
use Rattle.kom_events.specs.Kin.{kin}

abbrev pub compares : Op → ℤ → ℤ → Bool
compares Eq a b = same_int a b
compares Ne a b = not (same_int a b)
compares Lt a b = int_lt a b
compares Le a b = int_le a b
compares Gt a b = int_lt b a
compares Ge a b = int_le b a

-- the attribute of the event compares so with the number
abbrev pub holds : Test → Event → Bool
holds test event = compares test.op (unwrap_or (slice_get event.values test.attr) (pos 0)) test.number

-- an event that is not of the test's type passes untested
abbrev pub passes_test : List EventRow → Event → Test → Bool
passes_test rows event test = not (kin rows event.kind test.kind) || holds test event

-- an event passes a selector where it passes each of its tests
abbrev pub matches : List EventRow → List Test → Event → Bool
matches rows selector event = list_all (passes_test rows event) selector
