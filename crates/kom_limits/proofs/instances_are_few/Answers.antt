use Rattle.kom_limits.proofs.Small.{instances_are_few}
use Rattle.kom_limits.proofs.instances_are_few.Goals as goal

pub returns : goal.returns
returns c = instances_are_few
