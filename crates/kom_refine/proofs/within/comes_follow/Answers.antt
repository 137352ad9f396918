use Rattle.kom_refine.proofs.OneByOne.{comes_follow}
use Rattle.kom_refine.proofs.within.comes_follow.Goals as goal

pub returns : goal.returns
returns c = comes_follow
