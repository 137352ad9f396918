-- What waits in one direction.
use Rattle.std.specs.Prelude.{ℕ, List, [], ◌∷◌, Option, None}
use Rattle.std.specs.Option.{option_and_then, option_map}
use Rattle.kom_base.specs.Lists.{first}
use Rattle.kom_base.specs.declared.numbers.EntryNo.{EntryNo}
use Rattle.kom_queues.specs.declared.front.Arrival.{Arrival}

-- the numbers, the first at the front, the component that they wait for, and for how many more there is room
pub record Waiting : Type 0 where
  pub numbers : List EntryNo
  pub aim : Option ℕ
  pub spare : ℕ

abbrev pub empty_queue : Waiting
empty_queue = record { numbers = []; aim = None; spare = 0 }

-- without the number at the front
abbrev pub popped : Waiting → Waiting
popped w = left w.numbers
  where
    left : List EntryNo → Waiting
    left [] = w
    left (n ∷ ns) = record w { numbers = ns }

-- the number at the front and the component that it waits for
abbrev pub arrival_of : Waiting → Option Arrival
arrival_of w = option_and_then (λ c. option_map (λ n. record { comp = c; no = n }) (first w.numbers)) w.aim
