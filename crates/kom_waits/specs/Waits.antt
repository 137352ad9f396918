-- How many events wait in the channels, by number.
use Rattle.std.specs.Prelude.{ℕ, zero, suc, ◌+◌, Bool, if◌then◌else◌, List, length}
use Rattle.kom_base.specs.declared.numbers.Dir.TheVariants.{Plus, Minus}
use Rattle.kom_lang.specs.Declarations.{Declarations}
use Rattle.kom_lang.specs.declared.body.Effect.{Effect}
use Rattle.kom_lang.specs.declared.body.Effect.TheVariants as effect
use Rattle.kom_record.specs.Channels.{channels}
use Rattle.kom_record.specs.Entries.{Act}
use Rattle.kom_refine.specs.States.{State}
use Rattle.kom_refine.specs.Steps.{dies}
use Rattle.kom_wakes.specs.Laws.{queue_length}

-- in both directions of channel x
abbrev pub waits_in : State → ℕ → ℕ
waits_in m x = queue_length (m.queues x Plus) + queue_length (m.queues x Minus)

-- in all channels with numbers below n
abbrev pub waits_below : State → ℕ → ℕ
waits_below m zero = 0
waits_below m (suc n) = waits_below m n + waits_in m n

-- in those of them of which a test tells
abbrev pub waits_among : (ℕ → Bool) → State → ℕ → ℕ
waits_among test m zero = 0
waits_among test m (suc n) = waits_among test m n + (if test n then waits_in m n else 0)

-- how many events end with an effect of c after these acts
abbrev pub ends_by : Declarations → List Act → ℕ → Effect → State → ℕ
ends_by S done c (effect.Destroy slot) m = waits_among (dies S done c slot) m (length (channels S done))
ends_by S done c e m = 0
