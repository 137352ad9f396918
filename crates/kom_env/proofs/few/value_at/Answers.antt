use Rattle.std.proofs.Common.{◌≡◌, None, pos, sym, ap, ◌∙◌}
use Rattle.std.specs.Option.{unwrap_or}
use Rattle.std.proofs.lemmas.Option.{unwrap_or-slice_get}
use Rattle.kom_env.proofs.few.value_at.Goals as goal

pub returns-in-None : goal.returns-in-None
returns-in-None c = ap (λ g. unwrap_or g (pos 0)) c.in-None.ensures ∙ unwrap_or-slice_get c.args.values.now c.args.i (pos 0)
