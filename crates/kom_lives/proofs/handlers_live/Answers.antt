use Rattle.kom_lives.proofs.Lives.{handler_lives}
use Rattle.kom_lives.proofs.handlers_live.Goals as goal

pub returns : goal.returns
returns c S Z P w k took body effects to places item l = handler_lives S Z P w k took body effects to places item l
