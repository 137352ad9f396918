use Rattle.kom_offered.proofs.Releasing.{come_in}
use Rattle.kom_offered.proofs.releases_come_in.Goals as goal

pub returns : goal.returns
returns c S P w t released x d h = come_in S P x d w t released h
