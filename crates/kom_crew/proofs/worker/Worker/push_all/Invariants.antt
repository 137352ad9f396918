use Rattle.std.proofs.Common.{◌≡◌}
use Rattle.kom_ready.specs.Lots.{IsSameLot, given_of, pushed_of}
use Rattle.kom_crew.proofs.Pushing.{Put}
use Rattle.kom_crew.proofs.worker.Worker.push_all.Given as goal

abbrev pub invariant-loop-i : goal.invariant-loop-i
invariant-loop-i l = record {
  lot : IsSameLot l.fn.self.lot l.self.lot;
  seat : l.self.seat ≡ l.fn.self.seat;
  left : l.self.left ≡ l.fn.self.left;
  given : l.self.given ≡ l.fn.self.given;
  gave : given_of l.self.lot ≡ given_of l.fn.self.lot;
  put : Put l.wakes l.i (pushed_of l.fn.self.lot) (pushed_of l.self.lot);
}
