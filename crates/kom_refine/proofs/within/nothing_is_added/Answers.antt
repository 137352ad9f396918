use Rattle.kom_refine.proofs.OneByOne.{nothing_is_added}
use Rattle.kom_refine.proofs.within.nothing_is_added.Goals as goal

pub returns : goal.returns
returns c = nothing_is_added
