use Rattle.std.proofs.Common.{◌<◌, pos, length, ◌∙◌, refl, arith}
use Rattle.kom_scengram.specs.declared.parts.SettingPart.{SettingPart}
use Rattle.kom_scengram.specs.declared.parts.SettingPart.TheVariants.{Seed}
use Rattle.kom_scenario.specs.Scenes.{setting_of, same_setting}
use Rattle.kom_scenario.specs.Rules.{set_twice}
use Rattle.kom_scenario.proofs.Least.{along_more, any_more}
use Rattle.kom_scenario.proofs.settings.set_twice.Goals as goal

pub loop-part-preserved : goal.loop-part-preserved
loop-part-preserved c =
    let d : SettingPart = Seed 0 (record { value = pos 0; at = 0 }) in
    let less : c.loop-part.part-index < length c.args.parts.now = omega arith in
    record {
      seen = λ x. c.note.ensures x ∙ rw (any_more (λ y. same_setting (setting_of y) x) c.args.parts.now c.loop-part.part-index d less, c.loop-part.invariant.seen x, c.setting_of-setting.ensures) refl;
      found = rw (along_more set_twice c.args.parts.now c.loop-part.part-index d less) (c.earlier-found.ensures _ _ c.loop-part.invariant.found
          (c.place_if-again.ensures ∙ rw (c.has.ensures, c.loop-part.invariant.seen c.setting_of-setting.result, c.setting_of-setting.ensures, c.setting_at.ensures) refl));
    }
