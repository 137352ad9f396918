use Rattle.kom_wakes.proofs.Counting.{out_is}
use Rattle.kom_wakes.proofs.out_is_counted.Goals as goal

pub returns : goal.returns
returns c S P = out_is S P
