use Rattle.kom_told.proofs.Telling.{there_is}
use Rattle.kom_told.proofs.living_are_there.Goals as goal

pub returns : goal.returns
returns c S p m k s h = there_is S p m k s h
