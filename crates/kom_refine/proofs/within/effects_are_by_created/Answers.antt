use Rattle.kom_refine.proofs.OneByOne.{effects_are_by_created}
use Rattle.kom_refine.proofs.within.effects_are_by_created.Goals as goal

pub returns : goal.returns
returns c = effects_are_by_created
