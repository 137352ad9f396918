-- What is gathered of lots.
use Rattle.std.specs.Prelude.{◌≡◌, ◌+◌, ℕ, List}
use Rattle.std.specs.List.{sum_by}
use Rattle.kom_ready.specs.declared.gathered.Gathered.{Gathered}
use Rattle.kom_ready.specs.declared.gathered.Gathered.TheVariants.{Left, Memory}
use Rattle.kom_ready.specs.declared.lots.Lot.{Lot}
use Rattle.kom_ready.specs.declared.lots.ReadySet.{ReadySet}
use Rattle.kom_ready.specs.Lots.{given_by, pushed_to}

-- however the components are weighed, what was pushed is what the lots gave and what is left; or nothing was moved
abbrev pub IsGathered : ReadySet → List Lot → Gathered → Type 0
IsGathered set lots (Left left) = (h : ℕ → ℕ) → pushed_to h lots ≡ given_by h lots + sum_by h left.items
IsGathered set lots (Memory back all) = (back ≡ set) × (all.items ≡ lots)
