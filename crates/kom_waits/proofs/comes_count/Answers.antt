use Rattle.kom_waits.proofs.Waiting.{come_counted}
use Rattle.kom_waits.proofs.comes_count.Goals as goal

pub returns : goal.returns
returns c S p qs m n s t step = come_counted S p m s qs n t step
