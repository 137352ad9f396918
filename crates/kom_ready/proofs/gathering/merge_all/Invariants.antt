use Rattle.std.proofs.Common.{◌≡◌, drop, map}
use Rattle.kom_ready.specs.Stores.{AreMerged}
use Rattle.kom_ready.proofs.gathering.merge_all.Given as goal

abbrev pub invariant-loop : goal.invariant-loop
invariant-loop l = record {
  rest : l.rows.items ≡ drop l.counter l.fn.rows.items;
  merged : AreMerged l.counter (map (λ row. row.items) l.fn.rows.items) l.fn.stores.items l.stores.items;
}
