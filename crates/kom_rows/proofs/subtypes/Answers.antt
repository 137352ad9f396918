use Rattle.kom_rows.proofs.SubtypesWorked.{worked}
use Rattle.kom_rows.proofs.subtypes.Goals as goal

pub returns : goal.returns
returns c = worked
