use Rattle.kom_steps.proofs.children.create.Goals as goal

pub returns-clause-step : goal.returns-clause-step
returns-clause-step c = λ rest s. rw c.in_ok-args.ensures (c.create_child.ensures.step rest)
