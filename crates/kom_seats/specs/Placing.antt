-- A worker at its seat.
use Rattle.kom_system.specs.declared.system.System.{System}
use Rattle.kom_record.specs.declared.plan.Plan.{Plan}
use Rattle.kom_record.specs.Entries.{History}
use Rattle.kom_record.specs.Legal.{IsLegal}
use Rattle.kom_exchange.specs.Later.{about_of}
use Rattle.kom_exchange.specs.declared.exchange.Exchange.{Exchange}
use Rattle.kom_exchange.specs.Seats.{view, given_to, IsSeatOf}
use Rattle.kom_drives.specs.Hands.{HoldsJob}
use Rattle.kom_seats.specs.declared.calls.Placed.{Placed}

-- the record that a worker has seen
abbrev pub seen_by : Placed → History
seen_by p = (view p.seat).own.seen

module _ {T A : Type 0} (system : T → System) (plan : T → Plan) where
  -- the seat is one of the exchange, what it has seen is legal, and the job is the one that it has in hand in that
  pub record IsPlaced (exchange : Exchange T A) (p : Placed) : Type 0 where
    pub seat : IsSeatOf (about_of system plan) exchange p.seat
    pub legal : ∥ IsLegal (system (given_to exchange)).declarations (plan (given_to exchange)) (seen_by p) ∥₁
    pub hand : HoldsJob (system (given_to exchange)) (seen_by p) p.seat.number p.job
