use Rattle.std.proofs.Common.{[], refl}
use Rattle.kom_steps.proofs.wires.plug.Goals as goal

pub returns-in-Own-clause-step : goal.returns-in-Own-clause-step
returns-in-Own-clause-step c = λ rest s. rw c.in-Own.is (c.plug_at.ensures.step rest [] refl)

pub returns-in-Child-clause-step : goal.returns-in-Child-clause-step
returns-in-Child-clause-step c = λ rest s. rw c.in-Child.is (c.plug_at_child.ensures.step rest)
