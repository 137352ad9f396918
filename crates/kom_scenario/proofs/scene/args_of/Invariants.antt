use Rattle.std.proofs.Common.{◌≡◌, map, take}
use Rattle.kom_scenario.specs.Scenes.{arg_of}
use Rattle.kom_scenario.proofs.scene.args_of.Given as goal

abbrev pub invariant-loop-part : goal.invariant-loop-part
invariant-loop-part l = l.args ≡ map arg_of (take l.part-index l.parts)
