use Rattle.kom_queued.proofs.Counted.{comings}
use Rattle.kom_queued.proofs.comings_add_one.Goals as goal

pub returns : goal.returns
returns c = comings
