use Rattle.kom_refine.proofs.Laws.{void_follows}
use Rattle.kom_refine.proofs.void_follows.Goals as goal

pub returns : goal.returns
returns c = void_follows
