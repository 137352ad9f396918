use Rattle.kom_queued.proofs.Counted.{same_queues}
use Rattle.kom_queued.proofs.same_queues_hold_as_many.Goals as goal

pub returns : goal.returns
returns c = same_queues
