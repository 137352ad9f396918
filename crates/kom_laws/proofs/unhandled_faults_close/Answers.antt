use Rattle.kom_laws.proofs.Faults.{unhandled_closes}
use Rattle.kom_laws.proofs.unhandled_faults_close.Goals as goal

pub returns : goal.returns
returns c S Z P w k took n to places e = unhandled_closes S P w k took n to places Z e
