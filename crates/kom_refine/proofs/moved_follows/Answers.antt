use Rattle.kom_refine.proofs.Entries.{moved_follows}
use Rattle.kom_refine.proofs.moved_follows.Goals as goal

pub returns : goal.returns
returns c S Z P w t rs m n l r s = moved_follows S Z P w t rs m n l r s
