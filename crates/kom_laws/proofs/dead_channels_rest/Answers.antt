use Rattle.kom_laws.proofs.DeadChannels.{dead_rests}
use Rattle.kom_laws.proofs.dead_channels_rest.Goals as goal

pub returns : goal.returns
returns c S Z R P x d l b h e = dead_rests S Z x d R P l b h e
