use Rattle.kom_accept.proofs.Kept.{keeps}
use Rattle.kom_accept.proofs.Whole.{well_formed}
use Rattle.kom_accept.proofs.accepted_are_well_formed.Goals as goal

pub returns : goal.returns
returns c P e low high = well_formed P (keeps P e) low high
