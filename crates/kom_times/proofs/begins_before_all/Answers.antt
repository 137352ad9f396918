use Rattle.std.proofs.Common.{refl}
use Rattle.kom_times.specs.Following.{come_to}
use Rattle.kom_times.proofs.begins_before_all.Goals as goal

pub returns : goal.returns
unfolding come_to
returns c S Z spare = refl
