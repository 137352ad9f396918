use Rattle.kom_offered.proofs.Entering.{one_way}
use Rattle.kom_offered.proofs.answers_go_one_way.Goals as goal

pub returns : goal.returns
returns c S P o s e = one_way S P o s e
