use Rattle.kom_told.proofs.Telling.{lines}
use Rattle.kom_told.proofs.lines_by_state.Goals as goal

pub returns : goal.returns
returns c S p m k s = lines S p m k s
