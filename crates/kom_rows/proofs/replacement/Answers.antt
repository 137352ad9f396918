use Rattle.kom_rows.proofs.ReplacementWorked.{worked}
use Rattle.kom_rows.proofs.replacement.Goals as goal

pub returns : goal.returns
returns c = worked
