use Rattle.kom_wakes.proofs.Counting.{queued_is}
use Rattle.kom_wakes.proofs.queued_is_counted.Goals as goal

pub returns : goal.returns
returns c S P m s = queued_is S P m s
