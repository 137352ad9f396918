use Rattle.kom_rows.proofs.NetworkWorked.{worked}
use Rattle.kom_rows.proofs.network.Goals as goal

pub returns : goal.returns
returns c = worked
