use Rattle.kom_refine.proofs.OneByOne.{handlings_go_on}
use Rattle.kom_refine.proofs.within.handlings_go_on.Goals as goal

pub returns : goal.returns
returns c = handlings_go_on
