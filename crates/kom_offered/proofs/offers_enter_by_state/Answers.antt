use Rattle.kom_offered.proofs.Entering.{by_state}
use Rattle.kom_offered.proofs.offers_enter_by_state.Goals as goal

pub returns : goal.returns
returns c S P m x d h event s = by_state S P m x d h event s
