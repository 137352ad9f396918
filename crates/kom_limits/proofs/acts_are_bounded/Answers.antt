use Rattle.kom_limits.proofs.Counting.{acts_are_bounded}
use Rattle.kom_limits.proofs.acts_are_bounded.Goals as goal

pub returns : goal.returns
returns c = acts_are_bounded
