use Rattle.kom_laws.proofs.DumpsAlone.{creates_from_dumps_alone}
use Rattle.kom_laws.proofs.states_come_from_dumps.Goals as goal

pub returns : goal.returns
returns c S = creates_from_dumps_alone S
