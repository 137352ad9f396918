use Rattle.std.proofs.Common.{◌≡◌, take}
use Rattle.std.specs.List.{flat_map}
use Rattle.kom_scenario.specs.Numbers.{setting_numbers}
use Rattle.kom_scenario.specs.Rules.{first_place}
use Rattle.kom_scenario.proofs.numbers.settings_numbers.Given as goal

abbrev pub invariant-loop-part : goal.invariant-loop-part
invariant-loop-part l = l.found ≡ first_place (flat_map setting_numbers (take l.part-index l.parts))
