-- The room for control items of the components that a handling creates itself.
use Rattle.std.specs.Prelude.{◌≤◌, ◌+◌, ℕ, List, [], ◌∷◌, length}
use Rattle.kom_state.specs.Parts.{Parts, control_spare}
use Rattle.kom_births.specs.declared.seed.Seed.{Seed}
use Rattle.kom_births.specs.Sowing.{items_for}

-- there is room for so many control items of the first component of each brood, beside the item that it is
-- created with; the first of all gets the number `count`
abbrev pub TopsHaveRoom : ℕ → List (List Seed) → ℕ → Parts → Type 0
TopsHaveRoom n [] count v = Unit {0}
TopsHaveRoom n (b ∷ bs) count v = (n + items_for count count b ≤ control_spare v count) × TopsHaveRoom n bs (count + length b) v
