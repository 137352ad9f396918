use Rattle.kom_exchange.proofs.Seating.{Joins}
use Rattle.kom_exchange.proofs.exchange.Exchange.gather.Given as goal

abbrev pub invariant-loop-seat : goal.invariant-loop-seat
invariant-loop-seat g l = Joins l.self.table.shared.table_id l.fn.seats.items l.seats.items l.place

abbrev pub decreases-loop-seat : goal.decreases-loop-seat
decreases-loop-seat g l = goal.left-loop-seat g l
