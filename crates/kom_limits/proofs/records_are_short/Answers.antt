use Rattle.kom_limits.proofs.Counting.{records_are_short}
use Rattle.kom_limits.proofs.records_are_short.Goals as goal

pub returns : goal.returns
returns c = records_are_short
