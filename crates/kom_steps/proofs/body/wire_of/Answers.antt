use Rattle.std.proofs.Common.{◌∙◌, ap, unwrap_or}
use Rattle.std.proofs.lemmas.Option.{unwrap_or-slice_get}
use Rattle.kom_lang.specs.Steps.{no_wire}
use Rattle.kom_steps.proofs.body.wire_of.Goals as goal

pub returns-in-None : goal.returns-in-None
returns-in-None c = ap (λ o. unwrap_or o no_wire) c.in-None.ensures.value ∙ unwrap_or-slice_get c.args.body.now.wires c.args.k no_wire
