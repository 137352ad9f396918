use Rattle.kom_doing.proofs.Turn.{effects_may_be_done}
use Rattle.kom_doing.proofs.laws.effects_may_be_done.Goals as goal

pub returns : goal.returns
returns c = effects_may_be_done
