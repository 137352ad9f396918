use Rattle.kom_unplaced.proofs.Rules.{kept_too}
use Rattle.kom_unplaced.proofs.law.same_rules.Goals as goal

pub returns : goal.returns
returns c P Q number e h none = kept_too P Q number e h none
