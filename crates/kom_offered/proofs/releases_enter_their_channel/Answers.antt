use Rattle.kom_offered.proofs.Entering.{releases_enter}
use Rattle.kom_offered.proofs.releases_enter_their_channel.Goals as goal

pub returns : goal.returns
returns c S P x y d event h = releases_enter S P x y d event h
