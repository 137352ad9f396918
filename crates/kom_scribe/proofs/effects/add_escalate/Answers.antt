use Rattle.std.proofs.Common.{◌++◌, ap, ◌∙◌, codes}
use Rattle.std.proofs.lemmas.List.{append_assoc}
use Rattle.kom_record.specs.Trace.{number_or_none}
use Rattle.kom_scribe.proofs.effects.add_escalate.Goals as goal

pub returns : goal.returns
returns c =
    c.in_ok-add_number_or_none.ensures ∙ ap (λ t. t ++ number_or_none c.args.to) c.in_ok-add.ensures
    ∙ append_assoc c.args.text.now (codes "escalate to") (number_or_none c.args.to)
