use Rattle.std.specs.Prelude.{vec_capacity}
use Rattle.std.specs.Arc.{arc_value}
use Rattle.kom_seats.specs.Duos.{IsDuo}
use Rattle.kom_seats.proofs.tests.make_all.Given as goal

abbrev pub invariant-loop-call : goal.invariant-loop-call
invariant-loop-call g l = IsDuo l.duo.exchange (arc_value l.duo.system) l.duo.plan l.duo.zero l.duo.one l.duo.seats.items (vec_capacity l.duo.seats)
