use Rattle.kom_crew.specs.Workers.{EachOf, IsIdle, IsWorker, size_of}
use Rattle.kom_crew.proofs.Crowds.{Firsts}
use Rattle.kom_crew.proofs.driving.end_all_left.Given as goal

abbrev pub invariant-loop-i : goal.invariant-loop-i
invariant-loop-i g l = record {
  each : EachOf (size_of l.crew) (IsWorker g.T.StandsFor.system g.T.StandsFor.plan g.T.StandsFor.history l.crew) l.workers.items;
  firsts : Firsts (IsIdle g.T.StandsFor.system g.T.StandsFor.plan g.T.StandsFor.history l.crew) l.i l.workers.items;
}
