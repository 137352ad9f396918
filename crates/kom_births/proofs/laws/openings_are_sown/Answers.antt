use Rattle.kom_births.proofs.Rooted.{openings_are_sown}
use Rattle.kom_births.proofs.laws.openings_are_sown.Goals as goal

pub returns : goal.returns
returns c = openings_are_sown
