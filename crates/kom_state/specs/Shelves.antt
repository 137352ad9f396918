-- What the bodies are seen as.
use Rattle.std.specs.Prelude.{ℕ, List, slice_get, Option}
use Rattle.std.specs.Option.{option_and_then}
use Rattle.kom_lang.specs.declared.body.Body.{Body}

-- the body of each instance that was made, none where it has ended, and for how many more there is room
pub record Shelf : Type 0 where
  pub bodies : List (Option Body)
  pub spare : ℕ

abbrev pub body_at : List (Option Body) → ℕ → Option Body
body_at bodies c = option_and_then (λ b. b) (slice_get bodies c)
