use Rattle.kom_rows.proofs.SelectorsWorked.{worked}
use Rattle.kom_rows.proofs.selectors.Goals as goal

pub returns : goal.returns
returns c = worked
