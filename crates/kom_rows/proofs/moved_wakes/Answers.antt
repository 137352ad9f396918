use Rattle.kom_rows.proofs.FactsShown.{moved_wakes}
use Rattle.kom_rows.proofs.moved_wakes.Goals as goal

pub returns : goal.returns
returns c = moved_wakes
