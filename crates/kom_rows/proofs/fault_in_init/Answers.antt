use Rattle.kom_rows.proofs.FaultInInitWorked.{worked}
use Rattle.kom_rows.proofs.fault_in_init.Goals as goal

pub returns : goal.returns
returns c = worked
