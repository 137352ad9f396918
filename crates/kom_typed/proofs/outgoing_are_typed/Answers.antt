use Rattle.kom_laws.proofs.DumpsAlone.{contains_in}
use Rattle.kom_record.specs.Time.{outgoing}
use Rattle.kom_typed.proofs.Events.{typed}
use Rattle.kom_typed.proofs.outgoing_are_typed.Goals as goal

pub returns : goal.returns
returns c S Z P o D F l m = (typed S Z D F P l).outgoing o (contains_in o (outgoing S P) m)
