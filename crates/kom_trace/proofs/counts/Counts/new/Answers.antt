use Rattle.std.proofs.Common.{refl}
use Rattle.kom_trace.proofs.Counted.{none_counted}
use Rattle.kom_trace.proofs.counts.Counts.new.Goals as goal

pub returns : goal.returns
returns c S = none_counted S _ c.new.ensures.items refl refl refl refl
