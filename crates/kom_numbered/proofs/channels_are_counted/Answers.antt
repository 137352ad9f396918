use Rattle.kom_numbered.proofs.Numbering.{counted}
use Rattle.kom_numbered.proofs.channels_are_counted.Goals as goal

pub returns : goal.returns
returns c S done = counted S done
