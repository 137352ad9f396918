use Rattle.std.proofs.Common.{◌≡◌, drop, take, vec_capacity}
use Rattle.kom_crew.specs.Seated.{lots_of, seats_of}
use Rattle.kom_crew.proofs.seating.unseat_all.Given as goal

abbrev pub invariant-loop : goal.invariant-loop
invariant-loop l = record {
  left : l.workers.items ≡ drop l.counter l.fn.workers.items;
  seats_are : l.seats.items ≡ seats_of (take l.counter l.fn.workers.items);
  lots_are : l.lots.items ≡ lots_of (take l.counter l.fn.workers.items);
  seats_room : vec_capacity l.seats ≡ vec_capacity l.fn.seats;
  lots_room : vec_capacity l.lots ≡ vec_capacity l.fn.lots;
}
