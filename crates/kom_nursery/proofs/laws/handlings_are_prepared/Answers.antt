use Rattle.kom_nursery.proofs.Prepared.{handlings_are_prepared}
use Rattle.kom_nursery.proofs.laws.handlings_are_prepared.Goals as goal

pub returns : goal.returns
returns c = handlings_are_prepared
