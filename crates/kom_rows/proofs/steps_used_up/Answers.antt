use Rattle.kom_rows.proofs.StepsUsedUpWorked.{worked}
use Rattle.kom_rows.proofs.steps_used_up.Goals as goal

pub returns : goal.returns
returns c = worked
