use Rattle.kom_doing.proofs.Turn.{effects_go_on}
use Rattle.kom_doing.proofs.laws.effects_go_on.Goals as goal

pub returns : goal.returns
returns c = effects_go_on
