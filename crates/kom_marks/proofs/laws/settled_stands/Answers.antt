use Rattle.kom_marks.proofs.Settled as proof
use Rattle.kom_marks.proofs.laws.settled_stands.Goals as goal

pub returns : goal.returns
returns c = proof.settled_stands c.wakes_are_marked.ensures c.counts_go_on.ensures
