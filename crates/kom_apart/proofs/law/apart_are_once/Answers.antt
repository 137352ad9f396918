use Rattle.kom_apart.proofs.Once.{none_repeated}
use Rattle.kom_apart.proofs.law.apart_are_once.Goals as goal

pub returns : goal.returns
returns c spots h = none_repeated spots h
