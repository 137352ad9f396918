use Rattle.kom_rows.proofs.FaultPassesUpWorked.{worked}
use Rattle.kom_rows.proofs.fault_passes_up.Goals as goal

pub returns : goal.returns
returns c = worked
