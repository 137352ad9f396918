use Rattle.kom_marks.proofs.Marking.{stay}
use Rattle.kom_marks.proofs.laws.marks_stay.Goals as goal

pub returns : goal.returns
returns c = stay
