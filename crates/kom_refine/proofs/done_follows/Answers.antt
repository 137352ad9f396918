use Rattle.kom_refine.proofs.Laws.{done_follows}
use Rattle.kom_refine.proofs.done_follows.Goals as goal

pub returns : goal.returns
returns c = done_follows
