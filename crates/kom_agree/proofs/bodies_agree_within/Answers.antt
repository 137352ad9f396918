use Rattle.kom_agree.proofs.Records.{within}
use Rattle.kom_agree.proofs.bodies_agree_within.Goals as goal

pub returns : goal.returns
returns c S Z P w d took body effects to places item D l e = within S Z D P w d took body effects to places item l e
