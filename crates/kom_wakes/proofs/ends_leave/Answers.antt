use Rattle.kom_wakes.proofs.Working.{ends_leave}
use Rattle.kom_wakes.proofs.ends_leave.Goals as goal

pub returns : goal.returns
returns c catches d o m n k s q = ends_leave catches d o m n k s q
