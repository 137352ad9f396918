use Rattle.kom_refine.proofs.OneByOne.{handlings_end}
use Rattle.kom_refine.proofs.within.handlings_end.Goals as goal

pub returns : goal.returns
returns c = handlings_end
