use Rattle.kom_refine.proofs.OneByOne.{same_points_follow}
use Rattle.kom_refine.proofs.within.same_points_follow.Goals as goal

pub returns : goal.returns
returns c = same_points_follow
