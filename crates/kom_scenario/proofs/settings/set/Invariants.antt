use Rattle.std.proofs.Common.{◌≡◌, drop}
use Rattle.kom_scenario.specs.Scenes.{set}
use Rattle.kom_scenario.proofs.settings.set.Given as goal

abbrev pub invariant-loop-part : goal.invariant-loop-part
invariant-loop-part l = set l.parts l.setting ≡ set (drop l.part-index l.parts) l.setting
