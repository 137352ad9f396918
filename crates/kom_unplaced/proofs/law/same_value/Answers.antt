use Rattle.std.proofs.Common.{sym, ap, ◌∙◌}
use Rattle.kom_resolve.specs.Resolved.{resolved}
use Rattle.kom_unplaced.proofs.Value.{value_same}
use Rattle.kom_unplaced.proofs.law.same_value.Goals as goal

pub returns : goal.returns
returns c P Q e = sym (value_same P) ∙ ap resolved e ∙ value_same Q
