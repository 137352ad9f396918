use Rattle.kom_crew.specs.Workers.{EachOf, IsDone, IsIdle, size_of}
use Rattle.kom_crew.proofs.Crowds.{Firsts}
use Rattle.kom_crew.proofs.driving.end_all.Given as goal

abbrev pub invariant-loop-i : goal.invariant-loop-i
invariant-loop-i g l = record {
  each : EachOf (size_of l.crew) (IsIdle g.T.StandsFor.system g.T.StandsFor.plan g.T.StandsFor.history l.crew) l.workers.items;
  firsts : Firsts (IsDone g.T.StandsFor.system g.T.StandsFor.plan g.T.StandsFor.history l.crew) l.i l.workers.items;
}
