use Rattle.kom_batches.proofs.Ported.{at_ports}
use Rattle.kom_batches.proofs.batches_are_at_ports.Goals as goal

pub returns : goal.returns
returns c S Z P t f = at_ports S Z P t f
