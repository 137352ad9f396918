use Rattle.kom_puts.proofs.Putting.{same_is}
use Rattle.kom_puts.proofs.laws.same_states_follow.Goals as goal

pub returns : goal.returns
returns c S p m n e s = same_is S p m n e s
