use Rattle.kom_batches.proofs.Queued.{entering_counted}
use Rattle.kom_batches.proofs.releases_are_counted.Goals as goal

pub returns : goal.returns
returns c S P w t released at = entering_counted S P w t released at
