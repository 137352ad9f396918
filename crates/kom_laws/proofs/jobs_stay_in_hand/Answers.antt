use Rattle.kom_laws.proofs.JobsInHand.{stays_in_hand}
use Rattle.kom_laws.proofs.jobs_stay_in_hand.Goals as goal

pub returns : goal.returns
returns c S Z P e job l k h = stays_in_hand S Z P e job l k h
