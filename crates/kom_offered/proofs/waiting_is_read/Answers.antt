use Rattle.kom_offered.proofs.Reading.{waiting_read}
use Rattle.kom_offered.proofs.waiting_is_read.Goals as goal

pub returns : goal.returns
returns c S P x d q h = waiting_read S x d P q h
