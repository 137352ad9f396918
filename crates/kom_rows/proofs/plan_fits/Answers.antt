use Rattle.kom_rows.proofs.FactsShown.{plan_fits}
use Rattle.kom_rows.proofs.plan_fits.Goals as goal

pub returns : goal.returns
returns c = plan_fits
