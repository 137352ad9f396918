use Rattle.kom_rows.proofs.FactsShown.{job_is_well_formed}
use Rattle.kom_rows.proofs.job_is_well_formed.Goals as goal

pub returns : goal.returns
returns c = job_is_well_formed
