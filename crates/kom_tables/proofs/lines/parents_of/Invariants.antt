use Rattle.std.proofs.Common.{◌≡◌, ◌++◌, map, take}
use Rattle.kom_system.specs.Fitting.{built_in_events}
use Rattle.kom_rules.specs.Spaces.{event_row}
use Rattle.kom_tables.specs.Ancestry.{parents_in}
use Rattle.kom_tables.proofs.lines.parents_of.Given as goal

abbrev pub invariant-loop-part : goal.invariant-loop-part
invariant-loop-part l = l.list ≡ parents_in (built_in_events ++ map (event_row l.parts) (take l.part-index l.part-items))
