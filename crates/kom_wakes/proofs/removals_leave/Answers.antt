use Rattle.kom_wakes.proofs.Working.{removals_leave}
use Rattle.kom_wakes.proofs.removals_leave.Goals as goal

pub returns : goal.returns
returns c dies p slot m n k s b h = removals_leave dies p slot m n k s b h
