use Rattle.kom_marks.proofs.Settled.{unmarked}
use Rattle.kom_marks.proofs.laws.unmarked_stay.Goals as goal

pub returns : goal.returns
returns c = unmarked c.untouched_stay.ensures
