use Rattle.kom_batches.proofs.Short.{short}
use Rattle.kom_batches.proofs.batches_are_short.Goals as goal

pub returns : goal.returns
returns c S Z P t f l = short S Z c.acts_are_bounded.ensures c.records_are_short.ensures P t f l
