use Rattle.kom_queued.proofs.Counted.{relinks}
use Rattle.kom_queued.proofs.relinks_hold_as_many.Goals as goal

pub returns : goal.returns
returns c = relinks
