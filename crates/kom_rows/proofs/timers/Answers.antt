use Rattle.kom_rows.proofs.TimersWorked.{worked}
use Rattle.kom_rows.proofs.timers.Goals as goal

pub returns : goal.returns
returns c = worked
