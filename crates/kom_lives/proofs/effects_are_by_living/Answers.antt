use Rattle.kom_lives.proofs.Lives.{by_living}
use Rattle.kom_lives.proofs.effects_are_by_living.Goals as goal

pub returns : goal.returns
returns c S Z P l = by_living S Z P l
