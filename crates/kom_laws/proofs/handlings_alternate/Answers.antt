use Rattle.kom_laws.proofs.Handlings.{alternate}
use Rattle.kom_laws.proofs.handlings_alternate.Goals as goal

pub returns : goal.returns
returns c S Z R k l = alternate S Z k R l
