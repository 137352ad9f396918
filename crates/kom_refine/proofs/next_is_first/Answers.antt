use Rattle.kom_refine.proofs.Firsts.{takes_next}
use Rattle.kom_refine.proofs.next_is_first.Goals as goal

pub returns : goal.returns
returns c = takes_next
