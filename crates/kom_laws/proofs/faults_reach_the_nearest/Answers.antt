use Rattle.kom_laws.proofs.Faults.{fault_is_told}
use Rattle.kom_laws.proofs.faults_reach_the_nearest.Goals as goal

pub returns : goal.returns
returns c S P w k took n to places = fault_is_told S P w k took n to places
