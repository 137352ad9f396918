use Rattle.kom_lives.proofs.Plugged.{ends_live}
use Rattle.kom_lives.proofs.ends_are_at_living.Goals as goal

pub returns : goal.returns
returns c S Z P x e h D l k f = ends_live S Z D P l x e h k f
