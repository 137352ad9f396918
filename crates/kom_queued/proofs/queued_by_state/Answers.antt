use Rattle.kom_queued.proofs.Counted.{queued_by}
use Rattle.kom_queued.proofs.queued_by_state.Goals as goal

pub returns : goal.returns
returns c = queued_by c.queued_is_counted.ensures
