-- How many events wait in the queues of a state.
use Rattle.std.specs.Prelude.{ℕ, zero, suc, ◌+◌, Bool, if◌then◌else◌}
use Rattle.kom_base.specs.declared.numbers.Dir.TheVariants.{Plus, Minus}
use Rattle.kom_refine.specs.States.{State}
use Rattle.kom_wakes.specs.Laws.{queue_length}

-- in both directions of a channel
abbrev pub waiting_at : State → ℕ → ℕ
waiting_at m x = queue_length (m.queues x Plus) + queue_length (m.queues x Minus)

-- in the channels with numbers below a bound
abbrev pub waiting_below : State → ℕ → ℕ
waiting_below m zero = 0
waiting_below m (suc x) = waiting_below m x + waiting_at m x

-- in those of them that a test names
abbrev pub waiting_in : State → (ℕ → Bool) → ℕ → ℕ
waiting_in m names zero = 0
waiting_in m names (suc x) = waiting_in m names x + (if names x then waiting_at m x else 0)
