use Rattle.kom_wakes.proofs.Counting.{busy_after}
use Rattle.kom_wakes.proofs.busy_goes_on.Goals as goal

pub returns : goal.returns
returns c S P k = busy_after S P k
