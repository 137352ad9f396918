use Rattle.kom_lives.proofs.Single.{slot_holds}
use Rattle.kom_lives.proofs.slots_hold_one.Goals as goal

pub returns : goal.returns
returns c S done q p s rest h k f = slot_holds S done q p s rest h k f
