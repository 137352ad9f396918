use Rattle.kom_lives.proofs.Lives.{occupants}
use Rattle.kom_lives.proofs.occupants_live.Goals as goal

pub returns : goal.returns
returns c S done k s q by h e = occupants S done by k s q h e
