use Rattle.kom_wakes.proofs.Working.{puts_leave}
use Rattle.kom_wakes.proofs.puts_leave.Goals as goal

pub returns : goal.returns
returns c put m n k s e = puts_leave put m n k s e
