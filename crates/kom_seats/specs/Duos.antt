-- An exchange with two workers.
use Rattle.std.specs.Prelude.{◌≡◌, ◌≤◌, ℕ, List, []}
use Rattle.kom_system.specs.declared.system.System.{System}
use Rattle.kom_record.specs.declared.plan.Plan.{Plan}
use Rattle.kom_core.specs.declared.machine.Core.{Core}
use Rattle.kom_core.specs.Cores.{system_in, plan_in}
use Rattle.kom_exchange.specs.declared.exchange.Exchange.{Exchange}
use Rattle.kom_exchange.specs.declared.exchange.Seat.{Seat}
use Rattle.kom_exchange.specs.Seats.{given_to, IsOneOf}
use Rattle.kom_seats.specs.declared.calls.Placed.{Placed}
use Rattle.kom_seats.specs.Placing.{IsPlaced}

-- the worker has the k-th of two seats
abbrev pub IsPlacedAt : {A : Type 0} → Exchange Core A → ℕ → Placed → Type 0
IsPlacedAt exchange k p = IsPlaced system_in plan_in exchange p × IsOneOf exchange.table.shared.table_id 2 k p.seat

-- the exchange has a station of the system and the plan, the workers 0 and 1 have its seats, and there is room for both in the list that they left
pub record IsDuo {A : Type 0} (exchange : Exchange Core A) (system : System) (plan : Plan) (zero one : Placed) (left : List Seat) (room : ℕ) : Type 0 where
  pub system_is : system_in (given_to exchange) ≡ system
  pub plan_is : plan_in (given_to exchange) ≡ plan
  pub first : IsPlacedAt exchange 0 zero
  pub second : IsPlacedAt exchange 1 one
  pub empty : left ≡ []
  pub wide : 2 ≤ room
