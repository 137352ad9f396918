use Rattle.kom_rows.proofs.TwoChannelsWorked.{worked}
use Rattle.kom_rows.proofs.two_channels.Goals as goal

pub returns : goal.returns
returns c = worked
