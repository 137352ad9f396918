-- What an answer over the exchange says: s is the seat before the call, and t the seat after it. At its turn the seat
-- has seen R, and after it Q.
use Rattle.std.specs.Prelude.{◌≡◌, ◌⊎◌, ℕ, Option, None}
use Rattle.kom_system.specs.declared.system.System.{System}
use Rattle.kom_record.specs.declared.plan.Plan.{Plan}
use Rattle.kom_record.specs.declared.job.Job.{Job}
use Rattle.kom_record.specs.Entries.{History}
use Rattle.kom_exchange.specs.Calls.{Called}
use Rattle.kom_exchange.specs.declared.exchange.Seat.{Seat}
use Rattle.kom_exchange.specs.Seats.{view}
use Rattle.kom_drives.specs.declared.calls.Said.{Said}
use Rattle.kom_drives.specs.declared.calls.Said.TheVariants as said
use Rattle.kom_drives.specs.Says.{SaysTake, SaysEnd, SaysRest}

module _ (S : System) (Z : Plan) (s t : Seat) where
  -- the seat had its turn, and added n entries
  abbrev Turn : ℕ → (History → History → Type 0) → Type 0
  Turn n how = Called n how (view s) (view t)

  -- to a worker that had this in hand and asked for the next item of c
  abbrev pub SeatedTake : ℕ → Option Job → Said → Type 0
  SeatedTake c had said.Job = Turn 1 (λ R Q. SaysTake S Z R s.number c had said.Job Q)
  SeatedTake c had said.Nothing = Turn 0 (λ R Q. SaysTake S Z R s.number c had said.Nothing Q)
  SeatedTake c had said.Closed = Turn 0 (λ R Q. SaysTake S Z R s.number c had said.Closed Q)
  SeatedTake c had said.Memory = Turn 0 (λ R Q. SaysTake S Z R s.number c had said.Memory Q)
  SeatedTake c had said.NoCall = (had ≡ None → ⊥) × (t ≡ s)
  SeatedTake c had (said.Ended woken) = ⊥
  SeatedTake c had (said.Moved woken) = ⊥
  SeatedTake c had (said.Ready d) = ⊥
  SeatedTake c had said.Waiting = ⊥
  SeatedTake c had said.End = ⊥

  -- to a worker that had this in hand and ended it; want of memory for the handling comes before any call
  abbrev pub SeatedEnd : Option Job → Said → Type 0
  SeatedEnd had (said.Ended woken) = Turn 1 (λ R Q. SaysEnd S Z R had (said.Ended woken) Q)
  SeatedEnd had said.Memory = (had ≡ None → ⊥) × ((t ≡ s) ⊎ Turn 0 (λ R Q. SaysEnd S Z R had said.Memory Q))
  SeatedEnd had said.NoCall = (had ≡ None) × (t ≡ s)
  SeatedEnd had said.Job = ⊥
  SeatedEnd had said.Nothing = ⊥
  SeatedEnd had said.Closed = ⊥
  SeatedEnd had (said.Moved woken) = ⊥
  SeatedEnd had (said.Ready d) = ⊥
  SeatedEnd had said.Waiting = ⊥
  SeatedEnd had said.End = ⊥

  -- 1 where the time moved
  abbrev count_said : Said → ℕ
  count_said (said.Moved woken) = 1
  count_said said.Job = 0
  count_said said.Nothing = 0
  count_said said.Closed = 0
  count_said (said.Ended woken) = 0
  count_said (said.Ready d) = 0
  count_said said.Waiting = 0
  count_said said.End = 0
  count_said said.NoCall = 0
  count_said said.Memory = 0

  -- to a worker that asked what there is to do
  abbrev pub SeatedRest : Said → Type 0
  SeatedRest answer = Turn (count_said answer) (λ R Q. SaysRest S Z R s.number answer Q)
