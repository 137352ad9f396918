use Rattle.kom_waits.proofs.Waiting.{queued_counted}
use Rattle.kom_waits.proofs.queued_is_below.Goals as goal

pub returns : goal.returns
returns c S P m s = queued_counted S P m c.queued_is_counted.ensures s
