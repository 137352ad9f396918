use Rattle.kom_rows.proofs.RandomDelaysWorked.{worked}
use Rattle.kom_rows.proofs.random_delays.Goals as goal

pub returns : goal.returns
returns c = worked
