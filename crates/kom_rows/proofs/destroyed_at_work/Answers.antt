use Rattle.kom_rows.proofs.DestroyedAtWorkWorked.{worked}
use Rattle.kom_rows.proofs.destroyed_at_work.Goals as goal

pub returns : goal.returns
returns c = worked
