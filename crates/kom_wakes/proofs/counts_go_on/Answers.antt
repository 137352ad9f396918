use Rattle.kom_wakes.proofs.Counting.{counts}
use Rattle.kom_wakes.proofs.counts_go_on.Goals as goal

pub returns : goal.returns
returns c S Z P e = counts S Z P e
