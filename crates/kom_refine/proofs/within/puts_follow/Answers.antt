use Rattle.kom_refine.proofs.OneByOne.{puts_follow}
use Rattle.kom_refine.proofs.within.puts_follow.Goals as goal

pub returns : goal.returns
returns c = puts_follow
