use Rattle.kom_wakes.proofs.Working.{same_itself, same_then}
use Rattle.kom_wakes.proofs.same_work_goes_on.Goals as goal

pub returns : goal.returns
returns c = (same_itself, same_then)
