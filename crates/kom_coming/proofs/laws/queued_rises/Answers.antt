use Rattle.kom_coming.proofs.Counted.{queued_more}
use Rattle.kom_coming.proofs.laws.queued_rises.Goals as goal

pub returns : goal.returns
returns c S P qs m n s t step = queued_more S P m s qs n c.queued_is_counted.ensures t step
