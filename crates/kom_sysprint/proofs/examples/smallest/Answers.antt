use Rattle.kom_sysprint.proofs.ExamplesShown.{smallest_shown}
use Rattle.kom_sysprint.proofs.examples.smallest.Goals as goal

pub returns : goal.returns
returns c = smallest_shown
