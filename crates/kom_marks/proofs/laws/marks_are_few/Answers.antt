use Rattle.kom_marks.proofs.Marking.{fewer}
use Rattle.kom_marks.proofs.laws.marks_are_few.Goals as goal

pub returns : goal.returns
returns c = fewer
