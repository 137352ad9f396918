use Rattle.std.proofs.Common.{◌≡◌, drop, map, take, vec_capacity}
use Rattle.kom_ready.specs.Stores.{AreApart}
use Rattle.kom_ready.proofs.gathering.take_apart.Given as goal

abbrev pub invariant-loop : goal.invariant-loop
invariant-loop l = record {
  rest : l.lots.items ≡ drop l.counter l.fn.lots.items;
  apart : AreApart (take l.counter l.fn.lots.items) l.stores.items (map (λ row. row.items) l.rows.items);
  stores : vec_capacity l.stores ≡ vec_capacity l.fn.stores;
  rows : vec_capacity l.rows ≡ vec_capacity l.fn.rows;
}
