use Rattle.kom_refine.proofs.OneByOne.{handlings_begin_fresh}
use Rattle.kom_refine.proofs.within.handlings_begin_fresh.Goals as goal

pub returns : goal.returns
returns c = handlings_begin_fresh
