use Rattle.std.proofs.Common.{◌≡◌, take}
use Rattle.kom_rules.specs.Names.{names_of}
use Rattle.kom_tables.proofs.attributes.names_of_spots.Given as goal

abbrev pub invariant-loop-spot : goal.invariant-loop-spot
invariant-loop-spot l = l.names ≡ names_of (take l.spot-index l.spots)
