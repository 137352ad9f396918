use Rattle.kom_waits.proofs.Waiting.{effect_counted}
use Rattle.kom_waits.proofs.effects_count.Goals as goal

pub returns : goal.returns
returns c S p k item e m n s r = effect_counted S p k item m n s e r
