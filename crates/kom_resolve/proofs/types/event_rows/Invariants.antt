use Rattle.std.proofs.Common.{◌≡◌, ◌++◌, take, map}
use Rattle.kom_system.specs.Fitting.{built_in_events}
use Rattle.kom_rules.specs.Spaces.{event_row}
use Rattle.kom_resolve.proofs.types.event_rows.Given as goal

abbrev pub invariant-loop-part : goal.invariant-loop-part
invariant-loop-part l = l.rows.items ≡ built_in_events ++ map (event_row l.file.parts.now) (take l.part-index l.file.parts.now.events)
