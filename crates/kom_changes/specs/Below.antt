-- Who is in the tree of a component.
use Rattle.std.specs.Prelude.{ℕ, zero, suc, ◌+◌, Bool, ◌&&◌, ◌||◌, ◌==◌, nat_lt, if◌then◌else◌, length}
use Rattle.std.specs.List.{list_any}
use Rattle.kom_lang.specs.Declarations.{Declarations}
use Rattle.kom_lang.specs.declared.body.Effect.TheVariants as effect
use Rattle.kom_record.specs.declared.item.Item.{Item}
use Rattle.kom_refine.specs.Points.{Point, StandsAt}
use Rattle.kom_refine.specs.States.{State}
use Rattle.kom_refine.specs.Steps.{IsEffect, is_below}
use Rattle.kom_state.specs.Parts.{Parts, IsOf, state_of}
use Rattle.kom_state.specs.Readings.{ancestry_at}

-- how many of the numbers below n pass a test
abbrev pub count_under : ℕ → (ℕ → Bool) → ℕ
count_under zero f = 0
count_under (suc n) f = count_under n f + (if f n then 1 else 0)

-- e lives, and is d or below it
abbrev pub lives_in : State → ℕ → ℕ → Bool
lives_in m d e = m.living e && (d == e || list_any (λ q. d == q.0) (ancestry_at m e))

-- e is d, or lives in one of the first s slots of d or below
abbrev pub lives_in_first : State → ℕ → ℕ → ℕ → Bool
lives_in_first m d s e = d == e || (m.living e && list_any (λ q. d == q.0 && nat_lt q.1 s) (ancestry_at m e))

-- e lives in the slot of c or below
abbrev pub lives_below : State → ℕ → ℕ → ℕ → Bool
lives_below m c slot e = m.living e && is_below m c slot e

-- how many components pass a test
abbrev pub how_many : State → (ℕ → Bool) → ℕ
how_many m f = count_under (length m.nodes) f

-- the step of a Destroy at every point of a run for which the old state stands
abbrev pub Destroys : ℕ → ℕ → Parts → Parts → Type 0
Destroys c slot v w = (S : Declarations) (p : Point) (item : Item) → IsOf S v → StandsAt S p (state_of v) → IsEffect S p c item (effect.Destroy slot) (state_of v) (state_of w)
