use Rattle.kom_turns.proofs.Standing.{same_number}
use Rattle.kom_turns.proofs.run.Run.tally.Goals as goal

pub returns-clause-queued : goal.returns-clause-queued
returns-clause-queued c = same_number _ _ c.requires (λ s. s.counts_are.queued_are)

pub returns-clause-out : goal.returns-clause-out
returns-clause-out c = same_number _ _ c.requires (λ s. s.counts_are.out_are)
