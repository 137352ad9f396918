use Rattle.kom_coming.proofs.Fitting.{places_small}
use Rattle.kom_coming.proofs.laws.places_fit.Goals as goal

pub returns : goal.returns
returns c S Z P w k took item body effects to places f l e = places_small S Z P w k took item body effects to places c.acts_are_bounded.ensures c.records_are_short.ensures f l e
