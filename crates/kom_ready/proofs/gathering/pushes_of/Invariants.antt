use Rattle.std.proofs.Common.{◌≡◌, ◌*◌, ◌≤◌, length, take}
use Rattle.std.specs.List.{sum_by}
use Rattle.kom_ready.specs.Lots.{pushed_of}
use Rattle.kom_ready.proofs.gathering.pushes_of.Given as goal

abbrev pub invariant-loop-i : goal.invariant-loop-i
invariant-loop-i l = record {
  all : l.all ≡ sum_by (λ lot. length (pushed_of lot)) (take l.i l.lots.items);
  few : l.all ≤ l.i * 4294967295;
}
