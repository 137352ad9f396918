use Rattle.kom_laws.proofs.DumpsAlone.{contains_in}
use Rattle.kom_record.specs.Entries.{in_hand}
use Rattle.kom_typed.proofs.Jobs.{job_fits}
use Rattle.kom_typed.proofs.jobs_are_well_formed.Goals as goal

pub returns : goal.returns
returns c S Z P job b D F l m e = job_fits S Z D F P job b l (contains_in job (in_hand P) m) e
