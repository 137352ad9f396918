use Rattle.kom_steps.proofs.Steps.{then}
use Rattle.kom_eval.proofs.Handling.{begun}
use Rattle.kom_eval.proofs.outcome.run_handler.Goals as goal

pub returns : goal.returns
returns c = λ rest. rw (← c.in_ok-begin.ensures) (then rest _ _ (begun _ _ _ _) (c.run_statements.ensures.steps rest))
