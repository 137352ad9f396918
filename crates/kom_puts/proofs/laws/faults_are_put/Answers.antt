use Rattle.kom_puts.proofs.Putting.{fault_is}
use Rattle.kom_puts.proofs.laws.faults_are_put.Goals as goal

pub returns : goal.returns
returns c S P w d took number to places told m n e a = fault_is S P w d took number to places told m n e a
