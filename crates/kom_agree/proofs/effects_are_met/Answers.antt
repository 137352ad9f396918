use Rattle.kom_agree.proofs.Records.{effects_met}
use Rattle.kom_agree.proofs.effects_are_met.Goals as goal

pub returns : goal.returns
returns c S Z P w k took body effects to places item D l e = effects_met S Z D P w k took body effects to places item l e
