use Rattle.kom_wakes.proofs.Working.{untouched}
use Rattle.kom_wakes.proofs.untouched_stay.Goals as goal

pub returns : goal.returns
returns c S P Q m n k s t w b = untouched S P Q m n k s t w b
