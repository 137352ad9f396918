use Rattle.kom_laws.proofs.OneSimulation.{one_simulation}
use Rattle.kom_laws.proofs.one_simulation.Goals as goal

pub returns : goal.returns
returns c S Z R Q r q = one_simulation S Z R Q r q
