use Rattle.kom_laws.proofs.Escalations.{escalation_reaches}
use Rattle.kom_laws.proofs.escalations_reach_the_nearest.Goals as goal

pub returns : goal.returns
returns c S Z P w k took body effects to places n a s l e f = escalation_reaches S Z P w k took body effects to places n a s l e f
