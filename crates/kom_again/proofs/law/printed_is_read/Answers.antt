use Rattle.kom_again.proofs.Again.{again}
use Rattle.kom_again.proofs.law.printed_is_read.Goals as goal

pub returns : goal.returns
returns c text s d = again text s d
