use Rattle.kom_laws.proofs.NumbersRise.{rises}
use Rattle.kom_laws.proofs.numbers_rise.Goals as goal

pub returns : goal.returns
returns c S R x d = rises S R x d
