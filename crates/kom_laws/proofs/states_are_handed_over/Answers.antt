use Rattle.kom_laws.proofs.DumpsAlone.{creates_from_dumps_alone}
use Rattle.kom_laws.proofs.Handover.{states_handed_over}
use Rattle.kom_laws.proofs.states_are_handed_over.Goals as goal

pub returns : goal.returns
returns c S Z R declared l = states_handed_over S Z R (creates_from_dumps_alone S declared) l
