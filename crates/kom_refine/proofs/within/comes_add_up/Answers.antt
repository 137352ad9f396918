use Rattle.kom_refine.proofs.OneByOne.{comes_add_up}
use Rattle.kom_refine.proofs.within.comes_add_up.Goals as goal

pub returns : goal.returns
returns c = comes_add_up
