use Rattle.std.proofs.Common.{◌≡◌, ◌<◌, List, length, get_or, subst}
use denote.Param.Send.{sendable}
use Rattle.kom_crew.specs.declared.worker.Worker.{Worker}
use Rattle.kom_crew.specs.Workers.{IsIdle, size_of}
use Rattle.kom_crew.proofs.Crossing.{worker_send}
use Rattle.kom_crew.proofs.Crowds.{at_each}
use Rattle.kom_crew.proofs.driving.work_all.Goals as goal

pub for_each_mut-requires-send-T : goal.for_each_mut-requires-send-T
for_each_mut-requires-send-T g c κs within = search (worker_send, sendable) depth 20

pub for_each_mut-requires-clause-accepts : goal.for_each_mut-requires-clause-accepts
for_each_mut-requires-clause-accepts g c κs within = λ i p lt e.
    let crew = c.args.crew.now in
    let same = c.as_mut_slice.ensures.value in
    at_each (size_of crew) (IsIdle g.T.StandsFor.system g.T.StandsFor.plan g.T.StandsFor.history crew) c.args.workers.now.items i p.now c.requires.idle
    (subst (λ (xs : List Worker). i < length xs) same lt) (subst (λ (xs : List Worker). p.now ≡ get_or xs i p.now) same e)
