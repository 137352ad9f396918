use Rattle.std.proofs.Common.{◌≡◌, vec_capacity}
use Rattle.kom_ready.specs.Stores.{AreDrained}
use Rattle.kom_ready.proofs.gathering.drain_all.Given as goal

abbrev pub invariant-loop-j : goal.invariant-loop-j
invariant-loop-j l = record {
  drained : AreDrained l.j l.fn.stores.items l.stores.items l.fn.left.items l.left.items;
  capacity : vec_capacity l.left ≡ vec_capacity l.fn.left;
}
