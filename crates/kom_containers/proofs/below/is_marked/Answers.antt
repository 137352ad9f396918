use Rattle.std.proofs.Common.{unwrap_or, ap, ◌∙◌, false}
use Rattle.std.proofs.lemmas.Option.{unwrap_or-slice_get}
use Rattle.kom_containers.proofs.below.is_marked.Goals as goal

pub returns : goal.returns
returns c = c.unwrap_or.ensures ∙ ap (λ o. unwrap_or o false) (c.copied.ensures ∙ c.get.ensures.value) ∙ unwrap_or-slice_get c.args.table.now c.args.number false
