use Rattle.kom_coming.proofs.There.{all_entered}
use Rattle.kom_coming.proofs.laws.entering_has_come.Goals as goal

pub returns : goal.returns
returns c S P e v m put n s same i step = all_entered S P e v m put n s same i step
