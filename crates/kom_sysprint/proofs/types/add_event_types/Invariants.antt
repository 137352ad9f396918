use Rattle.std.proofs.Common.{◌≡◌, ◌++◌, take}
use Rattle.std.specs.List.{flat_map, enumerate_from}
use Rattle.kom_sysprint.specs.Canonical.{declared_text, event_type_text}
use Rattle.kom_sysprint.proofs.types.add_event_types.Given as goal

abbrev pub invariant-loop-k : goal.invariant-loop-k
invariant-loop-k l = l.text ≡ l.fn.text ++ flat_map (declared_text 4 (event_type_text l.names)) (take l.k (enumerate_from 0 l.names.declarations.events))
