use Rattle.kom_births.proofs.Shared.{rooms_are_left}
use Rattle.kom_births.proofs.laws.rooms_are_left.Goals as goal

pub returns : goal.returns
returns c = rooms_are_left
