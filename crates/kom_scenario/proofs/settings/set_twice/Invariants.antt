use Rattle.std.proofs.Common.{◌≡◌, [], take}
use Rattle.std.specs.List.{list_any}
use Rattle.kom_scenario.specs.declared.settings.Setting.{Setting}
use Rattle.kom_scenario.specs.Scenes.{setting_of, same_setting}
use Rattle.kom_scenario.specs.Rules.{first_place, along, set_twice}
use Rattle.kom_scenario.specs.Seen.{has}
use Rattle.kom_scenario.proofs.settings.set_twice.Given as goal

abbrev pub invariant-loop-part : goal.invariant-loop-part
invariant-loop-part l = record {
  seen : (x : Setting) → has l.seen x ≡ list_any (λ y. same_setting (setting_of y) x) (take l.part-index l.parts);
  found : l.found ≡ first_place (along set_twice [] (take l.part-index l.parts));
}
