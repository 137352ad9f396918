use Rattle.kom_lives.proofs.Single.{orderly}
use Rattle.kom_lives.proofs.effects_are_orderly.Goals as goal

pub returns : goal.returns
returns c S Z P D l = orderly S Z D P l
