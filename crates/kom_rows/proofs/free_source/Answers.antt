use Rattle.kom_rows.proofs.FreeSourceWorked.{worked}
use Rattle.kom_rows.proofs.free_source.Goals as goal

pub returns : goal.returns
returns c = worked
