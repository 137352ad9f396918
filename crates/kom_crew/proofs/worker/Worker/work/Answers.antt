use Rattle.std.proofs.Common.{refl, ◌∙◌}
use Rattle.kom_crew.proofs.worker.Worker.work.Goals as goal

pub loop-init : goal.loop-init
loop-init g c = record { idle = c.requires; number = refl }

pub step-requires : goal.step-requires
step-requires g c = c.loop.invariant.idle

pub loop-preserved : goal.loop-preserved
loop-preserved g c = record { idle = c.in-Again.ensures.stepped; number = c.step.ensures.number ∙ c.loop.invariant.number }
