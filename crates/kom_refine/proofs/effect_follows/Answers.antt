use Rattle.kom_refine.proofs.Laws.{effect_follows}
use Rattle.kom_refine.proofs.effect_follows.Goals as goal

pub returns : goal.returns
returns c = effect_follows
