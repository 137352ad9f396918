use Rattle.kom_coming.proofs.There.{comings_few}
use Rattle.kom_coming.proofs.laws.comings_fit.Goals as goal

pub returns : goal.returns
returns c S P e v x d i = comings_few S P e v x d i
