use Rattle.kom_offered.proofs.Entering.{home}
use Rattle.kom_offered.proofs.home_reaches_nothing.Goals as goal

pub returns : goal.returns
returns c S P o e = home S P o e
