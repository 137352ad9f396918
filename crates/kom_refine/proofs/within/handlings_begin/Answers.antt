use Rattle.kom_refine.proofs.OneByOne.{handlings_begin}
use Rattle.kom_refine.proofs.within.handlings_begin.Goals as goal

pub returns : goal.returns
returns c = handlings_begin
