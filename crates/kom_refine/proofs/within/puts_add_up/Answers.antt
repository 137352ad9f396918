use Rattle.kom_refine.proofs.OneByOne.{puts_add_up}
use Rattle.kom_refine.proofs.within.puts_add_up.Goals as goal

pub returns : goal.returns
returns c = puts_add_up
