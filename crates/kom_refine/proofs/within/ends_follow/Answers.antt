use Rattle.kom_refine.proofs.OneByOne.{ends_follow}
use Rattle.kom_refine.proofs.within.ends_follow.Goals as goal

pub returns : goal.returns
returns c = ends_follow
