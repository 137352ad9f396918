use Rattle.std.proofs.Common.{◌≡◌, map, take}
use Rattle.kom_rules.specs.Spaces.{event_number}
use Rattle.kom_tables.proofs.numbers.event_numbers.Given as goal

abbrev pub invariant-loop-spot : goal.invariant-loop-spot
invariant-loop-spot l = l.list ≡ map (event_number l.parts) (take l.spot-index l.spots)
