use Rattle.kom_times.proofs.Moving.{releases}
use Rattle.kom_times.proofs.follows_a_moved.Goals as goal

pub returns : goal.returns
returns c S Z P w t rs v u l h k = releases S Z P w t rs v u l h k
