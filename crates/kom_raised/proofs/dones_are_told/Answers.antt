use Rattle.kom_raised.proofs.Telling.{dones}
use Rattle.kom_raised.proofs.dones_are_told.Goals as goal

pub returns : goal.returns
returns c = dones
