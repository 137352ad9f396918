use Rattle.kom_times.proofs.Moving.{told}
use Rattle.kom_times.proofs.tells_what_is_pending.Goals as goal

pub returns : goal.returns
returns c S Z P v l h = told S Z P v l h
