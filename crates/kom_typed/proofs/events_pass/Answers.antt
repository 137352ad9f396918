use Rattle.kom_laws.proofs.DumpsAlone.{contains_in}
use Rattle.kom_record.specs.Queues.{entered}
use Rattle.kom_typed.proofs.Passing.{passing}
use Rattle.kom_typed.proofs.events_pass.Goals as goal

pub returns : goal.returns
returns c S Z P x d q D F l m = (passing S Z D F P l).events x d q (contains_in q (entered S P x d) m)
