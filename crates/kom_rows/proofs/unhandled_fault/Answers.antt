use Rattle.kom_rows.proofs.UnhandledFaultWorked.{worked}
use Rattle.kom_rows.proofs.unhandled_fault.Goals as goal

pub returns : goal.returns
returns c = worked
