use Rattle.kom_laws.proofs.DumpsAlone.{contains_in}
use Rattle.kom_record.specs.Queues.{entered}
use Rattle.kom_typed.proofs.Events.{typed}
use Rattle.kom_typed.proofs.events_are_typed.Goals as goal

pub returns : goal.returns
returns c S Z P x d q D F l m = (typed S Z D F P l).events x d q (contains_in q (entered S P x d) m)
