-- How many components an effect of a handling can mark, by the state before the handling.
use Rattle.std.specs.Prelude.{ℕ, ◌+◌}
use Rattle.kom_lang.specs.declared.body.Effect.{Effect}
use Rattle.kom_lang.specs.declared.body.Effect.TheVariants as effect
use Rattle.kom_refine.specs.States.{State}
use Rattle.kom_changes.specs.Below.{how_many, lives_below}

-- those that it creates left out, where the handling creates n: a Destroy ends at most those that live in the
-- slot or below and those that the handling creates, and each other effect marks at most two
abbrev pub most_at : State → ℕ → ℕ → Effect → ℕ
most_at m c n (effect.Create slot kind birth) = 0
most_at m c n (effect.Destroy slot) = how_many m (lives_below m c slot) + n
most_at m c n e = 2
