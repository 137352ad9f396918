use Rattle.std.proofs.Common.{◌∙◌}
use Rattle.kom_crew.proofs.worker.Worker.step.Goals as goal

pub take-requires : goal.take-requires
take-requires g c = c.next.ensures.idle

pub rest-requires : goal.rest-requires
rest-requires g c = c.next.ensures.idle

pub returns-in-Some-clause-number : goal.returns-in-Some-clause-number
returns-in-Some-clause-number g c = c.take.ensures.number ∙ c.next.ensures.number

pub returns-in-None-clause-number : goal.returns-in-None-clause-number
returns-in-None-clause-number g c = c.rest.ensures.number ∙ c.next.ensures.number
