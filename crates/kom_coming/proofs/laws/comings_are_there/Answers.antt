use Rattle.kom_coming.proofs.There.{comings_there}
use Rattle.kom_coming.proofs.laws.comings_are_there.Goals as goal

pub returns : goal.returns
returns c S P e v m put s same i = comings_there S P e v m put s same i
