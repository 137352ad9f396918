use Rattle.std.proofs.Common.{◌≡◌}
use Rattle.kom_crew.specs.Workers.{IsIdle}
use Rattle.kom_crew.proofs.worker.Worker.work.Given as goal

abbrev pub invariant-loop : goal.invariant-loop
invariant-loop g l = record {
  idle : IsIdle g.T.StandsFor.system g.T.StandsFor.plan g.T.StandsFor.history l.crew l.self;
  number : l.self.seat.number ≡ l.fn.self.seat.number;
}
