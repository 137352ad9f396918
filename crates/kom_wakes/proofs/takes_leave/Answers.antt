use Rattle.kom_wakes.proofs.Working.{takes_leave}
use Rattle.kom_wakes.proofs.takes_leave.Goals as goal

pub returns : goal.returns
returns c d item m n k s q h = takes_leave d item m n k s q h
