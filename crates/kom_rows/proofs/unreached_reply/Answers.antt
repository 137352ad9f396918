use Rattle.kom_rows.proofs.UnreachedReplyWorked.{worked}
use Rattle.kom_rows.proofs.unreached_reply.Goals as goal

pub returns : goal.returns
returns c = worked
