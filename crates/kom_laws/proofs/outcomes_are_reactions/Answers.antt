use Rattle.kom_laws.proofs.Handlings.{reaction}
use Rattle.kom_laws.proofs.outcomes_are_reactions.Goals as goal

pub returns : goal.returns
returns c S Z R P w k took o to places l b = reaction S Z R P w k took o to places l b
