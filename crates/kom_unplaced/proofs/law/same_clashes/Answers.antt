use Rattle.kom_unplaced.proofs.Clashes.{no_clashes}
use Rattle.kom_unplaced.proofs.law.same_clashes.Goals as goal

pub returns : goal.returns
returns c P Q e none = no_clashes P Q e none
