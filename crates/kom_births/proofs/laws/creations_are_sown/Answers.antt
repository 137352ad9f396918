use Rattle.kom_births.proofs.Created.{creations_are_sown}
use Rattle.kom_births.proofs.laws.creations_are_sown.Goals as goal

pub returns : goal.returns
returns c = creations_are_sown
