use Rattle.kom_rows.proofs.SelectorsOfSeveralTestsWorked.{worked}
use Rattle.kom_rows.proofs.selectors_of_several_tests.Goals as goal

pub returns : goal.returns
returns c = worked
