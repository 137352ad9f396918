use Rattle.kom_rows.proofs.HoldAndResumeWorked.{worked}
use Rattle.kom_rows.proofs.hold_and_resume.Goals as goal

pub returns : goal.returns
returns c = worked
