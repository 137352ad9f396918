use Rattle.kom_rows.proofs.RepliesWorked.{worked}
use Rattle.kom_rows.proofs.replies.Goals as goal

pub returns : goal.returns
returns c = worked
