use Rattle.kom_rows.proofs.SmallestWorked.{worked}
use Rattle.kom_rows.proofs.smallest.Goals as goal

pub returns : goal.returns
returns c = worked
