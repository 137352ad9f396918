use Rattle.std.proofs.Common.{◌≡◌, drop, take, vec_capacity}
use Rattle.std.specs.Prelude.{All}
use Rattle.kom_crew.specs.declared.worker.Left.TheVariants.{Nothing}
use Rattle.kom_crew.specs.Seated.{lots_of, seats_of}
use Rattle.kom_crew.proofs.seating.seat_all.Given as goal

abbrev pub invariant-loop : goal.invariant-loop
invariant-loop l = record {
  seats_left : l.seats.items ≡ drop l.counter l.fn.seats.items;
  lots_left : l.lots.items ≡ drop l.counter l.fn.lots.items;
  seats_are : seats_of l.workers.items ≡ take l.counter l.fn.seats.items;
  lots_are : lots_of l.workers.items ≡ take l.counter l.fn.lots.items;
  idle : All (λ w. w.left ≡ Nothing) l.workers.items;
  given : All (λ w. w.given ≡ 0) l.workers.items;
  seats_room : vec_capacity l.seats ≡ vec_capacity l.fn.seats;
  lots_room : vec_capacity l.lots ≡ vec_capacity l.fn.lots;
  room : vec_capacity l.workers ≡ vec_capacity l.fn.workers;
}
