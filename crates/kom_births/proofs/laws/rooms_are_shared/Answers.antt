use Rattle.kom_births.proofs.Shared.{rooms_are_shared}
use Rattle.kom_births.proofs.laws.rooms_are_shared.Goals as goal

pub returns : goal.returns
returns c = rooms_are_shared
