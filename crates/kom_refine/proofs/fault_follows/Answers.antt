use Rattle.kom_refine.proofs.Entries.{fault_follows}
use Rattle.kom_refine.proofs.fault_follows.Goals as goal

pub returns : goal.returns
returns c S Z P w k took number to places m mid n l put end s = fault_follows S Z P w k took number to places m mid n l put end s
