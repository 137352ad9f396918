use Rattle.kom_sysprint.proofs.ExamplesShown.{upgraded_shown}
use Rattle.kom_sysprint.proofs.examples.smallest_upgraded.Goals as goal

pub returns : goal.returns
returns c = upgraded_shown
