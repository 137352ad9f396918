use Rattle.kom_wakes.proofs.Working.{creations_leave}
use Rattle.kom_wakes.proofs.creations_leave.Goals as goal

pub returns : goal.returns
returns c S done count chans news m n k s l h = creations_leave S done count chans news m n k s l h
