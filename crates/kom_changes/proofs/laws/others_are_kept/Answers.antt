use Rattle.kom_changes.proofs.Others.{others_are_kept}
use Rattle.kom_changes.proofs.laws.others_are_kept.Goals as goal

pub returns : goal.returns
returns c = others_are_kept
