-- What holds of the parts of every set.
use Rattle.std.specs.Prelude.{◌≡◌, ◌<◌, ◌≤◌, ◌+◌, ◌^◌, ℕ, List, length, map}
use Rattle.std.specs.Option.{IsSome}
use Rattle.std.specs.Ordering.{nat_cmp}
use Rattle.kom_index.specs.Entries.{Rises, value_of}

abbrev pub keys : List (ℕ × Unit {0}) → List ℕ
keys es = map (λ e. e.0) es

-- the keys are counted, rise and are below the bound, and there is room for each number below it
pub record IsSound (es : List (ℕ × Unit {0})) (spare count bound : ℕ) : Type 0 where
  pub counted : count ≡ length es
  pub rises : Rises nat_cmp es
  pub within : (c : ℕ) → IsSome (value_of nat_cmp c es) → c < bound
  pub small : bound < 2 ^ 32
  pub fits : bound ≤ length es + spare
