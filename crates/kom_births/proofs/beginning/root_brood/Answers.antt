use Rattle.std.proofs.Common.{refl, sym, ap, ◌∙◌, subst}
use Rattle.std.specs.Prelude.{◌≡◌}
use Rattle.std.specs.Result.{IfOk}
use Rattle.kom_lang.specs.declared.body.Birth.TheVariants.{Args}
use Rattle.kom_births.proofs.Begun.{root_instance, root_seeds}
use Rattle.kom_births.proofs.beginning.root_brood.Goals as goal

pub returns : goal.returns
returns c =
    let S = c.args.system.now.declarations in
    subst (λ l. IfOk c.of.result (λ brood. brood ≡ l)) (root_seeds S)
    (c.of.ensures.planted (root_instance S) (sym (ap (λ r. r.kind) c.root-root.ensures)) (sym (ap Args (c.in_ok-copy.ensures ∙ ap (λ r. r.args) c.root-root.ensures))) refl refl)
