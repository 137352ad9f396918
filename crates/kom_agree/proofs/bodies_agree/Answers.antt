use Rattle.kom_agree.proofs.Records.{body_good}
use Rattle.kom_agree.proofs.bodies_agree.Goals as goal

pub returns : goal.returns
returns c S Z P k b D l e = (body_good S Z D P k b l e).2.agrees
