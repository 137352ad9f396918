use Rattle.kom_refine.proofs.Taking.{took_follows}
use Rattle.kom_refine.proofs.took_follows.Goals as goal

pub returns : goal.returns
returns c S Z P w k item m n l r s = took_follows S Z P w k item m n l r s
