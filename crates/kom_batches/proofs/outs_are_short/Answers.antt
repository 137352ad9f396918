use Rattle.kom_batches.proofs.Queued.{out_short}
use Rattle.kom_batches.proofs.outs_are_short.Goals as goal

pub returns : goal.returns
returns c S Z P d f l = out_short S Z c.acts_are_bounded.ensures c.records_are_short.ensures c.numbers_are_enough.ensures P d f l
