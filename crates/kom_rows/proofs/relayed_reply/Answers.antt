use Rattle.kom_rows.proofs.RelayedReplyWorked.{worked}
use Rattle.kom_rows.proofs.relayed_reply.Goals as goal

pub returns : goal.returns
returns c = worked
