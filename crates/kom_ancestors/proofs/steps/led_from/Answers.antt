use Rattle.std.proofs.Common.{◌∙◌, None, sym, ap, unwrap_or}
use Rattle.std.specs.Option.{option_and_then}
use Rattle.std.proofs.lemmas.Option.{unwrap_or-slice_get}
use Rattle.kom_ancestors.specs.Far.{to}
use Rattle.kom_ancestors.proofs.steps.led_from.Goals as goal

pub returns-in-None-at : goal.returns-in-None-at
returns-in-None-at c =
    ap (λ o. unwrap_or o None) c.in-None-at.ensures ∙ unwrap_or-slice_get c.args.table.now c.in-Some.number None ∙ ap (option_and_then (to c.args.table.now)) (sym c.in-Some.is)
