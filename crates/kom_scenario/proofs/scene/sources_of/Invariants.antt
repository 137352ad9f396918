use Rattle.std.proofs.Common.{◌≡◌, map, take}
use Rattle.kom_scenario.specs.Scenes.{source_of}
use Rattle.kom_scenario.proofs.scene.sources_of.Given as goal

abbrev pub invariant-loop-part : goal.invariant-loop-part
invariant-loop-part l = l.sources ≡ map (source_of l.known.system.now l.parts) (take l.part-index l.parts)
