use Rattle.kom_coming.proofs.There.{made_below}
use Rattle.kom_coming.proofs.laws.receivers_are_made.Goals as goal

pub returns : goal.returns
returns c S P v s x e h p = made_below S P v c.ends_are_at_living.ensures s x e h p
