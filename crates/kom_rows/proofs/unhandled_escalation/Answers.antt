use Rattle.kom_rows.proofs.UnhandledEscalationWorked.{worked}
use Rattle.kom_rows.proofs.unhandled_escalation.Goals as goal

pub returns : goal.returns
returns c = worked
