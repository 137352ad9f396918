use Rattle.kom_rows.proofs.EscalationWorked.{worked}
use Rattle.kom_rows.proofs.escalation.Goals as goal

pub returns : goal.returns
returns c = worked
