use Rattle.kom_marks.proofs.Marking.{add_up}
use Rattle.kom_marks.proofs.laws.marks_add_up.Goals as goal

pub returns : goal.returns
returns c = add_up c.same_work_goes_on.ensures
