use Rattle.kom_steps.proofs.children.create_from_state.Goals as goal

pub returns-clause-step : goal.returns-clause-step
returns-clause-step c = λ rest s. rw (c.len.ensures, c.count_of_vars.ensures, c.in_ok-state.ensures) at (c.create_child.ensures.step rest)
