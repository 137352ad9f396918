-- Names with a count each.
use Rattle.std.specs.Prelude.{ℕ, Bool, false, List, Option, slice_get, unwrap_or}
use Rattle.std.specs.Option.{option_and_then, option_map_or}
use Rattle.std.specs.List.{position_from}
use Rattle.std.specs.Str.{bytes_eq}
use Rattle.kom_io.specs.Faults.{last_count}

-- whether the name stands at this place
abbrev pub stands_at : List (List ℕ) → ℕ → List ℕ → Bool
stands_at names i name = option_map_or (λ n. bytes_eq n name) (slice_get names i) false

-- the first place at which the name stands
abbrev pub place_of : List (List ℕ) → List ℕ → Option ℕ
place_of names name = position_from (λ n. bytes_eq n name) 0 names

-- what stands at the name's place
abbrev pub at_name : {X : Type 0} → List (List ℕ) → List X → List ℕ → Option X
at_name names xs name = option_and_then (λ place. slice_get xs place) (place_of names name)

-- the count of a name, and the last one where it does not stand here
abbrev pub count_at : List (List ℕ) → List ℕ → List ℕ → ℕ
count_at names counts name = unwrap_or (at_name names counts name) last_count

-- no fault yet, and the last count for a name that is not there
abbrev pub first_count_of : List (List ℕ) → List ℕ → ℕ
first_count_of names name = option_map_or (λ _. 0) (place_of names name) last_count
