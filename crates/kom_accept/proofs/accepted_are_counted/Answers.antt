use Rattle.kom_accept.proofs.Counts.{counted}
use Rattle.kom_accept.proofs.Kept.{keeps}
use Rattle.kom_accept.proofs.accepted_are_counted.Goals as goal

pub returns : goal.returns
returns c P e = counted P (keeps P e)
