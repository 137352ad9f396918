use Rattle.kom_wakes.proofs.Working.{comings_leave}
use Rattle.kom_wakes.proofs.comings_leave.Goals as goal

pub returns : goal.returns
returns c came m n k s h = comings_leave came m n k s h
