use Rattle.kom_refine.proofs.OneByOne.{handlings_are_within}
use Rattle.kom_refine.proofs.within.handlings_are_within.Goals as goal

pub returns : goal.returns
returns c = handlings_are_within
