use Rattle.kom_times.proofs.Asked.{few}
use Rattle.kom_times.proofs.releases_are_few.Goals as goal

pub returns : goal.returns
returns c S Z P gone v f l h = few S Z P gone v f l h
