-- The workers with their seats and lots, and what their lots gave.
use Rattle.std.specs.Prelude.{◌≡◌, ℕ, List, length, map, min, All}
use Rattle.std.specs.List.{sum_by}
use Rattle.kom_exchange.specs.declared.exchange.Seat.{Seat}
use Rattle.kom_ready.specs.declared.lots.Lot.{Lot}
use Rattle.kom_ready.specs.Counts.{last_count}
use Rattle.kom_ready.specs.Lots.{given_of}
use Rattle.kom_crew.specs.declared.worker.Left.TheVariants.{Nothing}
use Rattle.kom_crew.specs.declared.worker.Worker.{Worker}

abbrev pub seats_of : List Worker → List Seat
seats_of workers = map (λ w. w.seat) workers

abbrev pub lots_of : List Worker → List Lot
lots_of workers = map (λ w. w.lot) workers

-- the workers have these seats and lots, in order, nothing is left with any, and none has counted anything
pub record AreSeated (seats : List Seat) (lots : List Lot) (workers : List Worker) : Type 0 where
  pub seats_are : seats_of workers ≡ seats
  pub lots_are : lots_of workers ≡ lots
  pub idle : All (λ w. w.left ≡ Nothing) workers
  pub given : All (λ w. w.given ≡ 0) workers

-- how many components the lots of all workers gave by their counts; the sum stands still at the greatest u64
abbrev pub given_in_all : List Worker → ℕ
given_in_all workers = min (sum_by (λ w. w.given) workers) last_count

-- how many components these lots gave; the sum stands still at the greatest u64
abbrev pub given_by_all : List Lot → ℕ
given_by_all lots = min (sum_by (λ lot. length (given_of lot)) lots) last_count
