use Rattle.std.proofs.Common.{◌≡◌, drop}
use Rattle.kom_ready.specs.Stores.{IsMerged}
use Rattle.kom_ready.proofs.gathering.merge.Given as goal

abbrev pub invariant-loop-j : goal.invariant-loop-j
invariant-loop-j l = record {
  rest : l.row.items ≡ drop l.j l.fn.row.items;
  merged : IsMerged l.j l.fn.row.items l.fn.stores.items l.stores.items;
}
