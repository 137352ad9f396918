use Rattle.kom_told.proofs.Telling.{nearest_is}
use Rattle.kom_told.proofs.nearest_by_state.Goals as goal

pub returns : goal.returns
returns c S Z P m k l s h = nearest_is S Z P m k l s h
