use Rattle.kom_rows.proofs.FactsShown.{did_wakes}
use Rattle.kom_rows.proofs.did_wakes.Goals as goal

pub returns : goal.returns
returns c = did_wakes
