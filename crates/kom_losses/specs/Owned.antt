-- The channels of some components.
use Rattle.std.specs.Prelude.{◌≡◌, ◌≤◌, ◌<◌, ◌^◌, ℕ, Bool, false, length, Some}
use Rattle.std.specs.Option.{option_map_or}
use Rattle.kom_lang.specs.declared.body.Body.{Body}
use Rattle.kom_numbers.specs.Numbering.{count_of, total, wire_at}
use Rattle.kom_state.specs.Parts.{Parts, state_of}
use Rattle.kom_queued.specs.Counting.{waiting_below, waiting_in}

-- x is a channel of a component that the test names
abbrev pub owned : Parts → (ℕ → Bool) → ℕ → Bool
owned v names x = option_map_or (λ q. names q.0) (wire_at v.numbers x) false

-- how many events wait in the channels that the test names
abbrev pub waiting_of : Parts → (ℕ → Bool) → ℕ
waiting_of v names = waiting_in (state_of v) names (total v.numbers)

-- each body has as many channels as its component was given numbers for, and they are few
abbrev pub WiresAreCounted : Parts → Type 0
WiresAreCounted v = (d : ℕ) (b : Body) → (state_of v).bodies d ≡ Some b → (length b.wires ≡ count_of v.numbers d) × (length b.wires ≤ 256)

-- what waits is counted in 64 bits
abbrev pub FewWait : Parts → Type 0
FewWait v = waiting_below (state_of v) (total v.numbers) < 2 ^ 64
