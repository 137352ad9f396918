use Rattle.kom_times.specs.Following.{come_to}
use Rattle.kom_times.proofs.stays_at_took.Goals as goal

pub returns : goal.returns
unfolding come_to
returns c S Z P w k item v h = h
