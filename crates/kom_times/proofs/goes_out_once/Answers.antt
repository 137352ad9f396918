use Rattle.kom_times.proofs.Outward.{goes_out, stays_in}
use Rattle.kom_times.proofs.goes_out_once.Goals as goal

pub returns : goal.returns
returns c S P q = (goes_out S P q, stays_in S P q)
