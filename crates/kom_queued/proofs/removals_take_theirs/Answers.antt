use Rattle.kom_queued.proofs.Counted.{removals}
use Rattle.kom_queued.proofs.removals_take_theirs.Goals as goal

pub returns : goal.returns
returns c = removals
