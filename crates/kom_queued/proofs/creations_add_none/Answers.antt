use Rattle.kom_queued.proofs.Counted.{creations}
use Rattle.kom_queued.proofs.creations_add_none.Goals as goal

pub returns : goal.returns
returns c = creations
