use Rattle.kom_wakes.proofs.Working.{relinks_leave}
use Rattle.kom_wakes.proofs.relinks_leave.Goals as goal

pub returns : goal.returns
returns c names change m n k s h = relinks_leave names change m n k s h
