use Rattle.kom_refine.proofs.Laws.{effects_stay_fresh}
use Rattle.kom_refine.proofs.effects_stay_fresh.Goals as goal

pub returns : goal.returns
returns c = effects_stay_fresh
