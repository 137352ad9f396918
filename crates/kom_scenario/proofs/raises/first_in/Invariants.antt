use Rattle.std.proofs.Common.{◌≡◌, take}
use Rattle.std.specs.List.{flat_map}
use Rattle.kom_scenario.specs.Rules.{first_place}
use Rattle.kom_scenario.specs.Checks.{source_places}
use Rattle.kom_scenario.proofs.raises.first_in.Given as goal

abbrev pub invariant-loop-source : goal.invariant-loop-source
invariant-loop-source l = l.found ≡ first_place (flat_map (source_places l.known.system.now l.check) (take l.source-index l.sources))
