use Rattle.kom_doing.proofs.Left.{room_is_left}
use Rattle.kom_doing.proofs.laws.room_is_left.Goals as goal

pub returns : goal.returns
returns c = room_is_left
