use Rattle.kom_times.specs.Following.{come_to}
use Rattle.kom_times.proofs.Room.{absorbs}
use Rattle.kom_times.proofs.follows_a_did.Goals as goal

pub returns : goal.returns
unfolding come_to
returns c S Z P = ((λ v h. h), (λ gone o v u h k. absorbs (come_to S Z P) v u gone o h k), (λ w d took outcome to places v h. h))
