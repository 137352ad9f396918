-- What it is to plant instances one after another.
use Rattle.std.specs.Prelude.{◌≡◌, ◌≤◌, ◌<◌, ℕ, ◌+◌, ◌==◌, true, if◌then◌else◌, List, [], ◌∷◌, ◌++◌, length, map}
use Rattle.kom_base.specs.declared.numbers.Dir.{Dir}
use Rattle.kom_lang.specs.Declarations.{Declarations}
use Rattle.kom_refine.specs.States.{State}
use Rattle.kom_state.specs.Parts.{Parts, instance_spare, channel_spare, control_spare, has_row, queue_spare, has_queues}
use Rattle.kom_state.specs.Plantings.{IsPlanted, MayPlant, items_of}
use Rattle.kom_births.specs.declared.seed.Seed.{Seed}
use Rattle.kom_births.specs.Seeds.{links_of}

-- these are planted one after another; the first has the number `count`, its first channel the number `chans`
abbrev pub AreSown : Declarations → ℕ → ℕ → List Seed → State → State → Type 0
AreSown S count chans [] m n = m ≡ n
AreSown S count chans (s ∷ ss) m n = (k : State) × IsPlanted S count chans s.place s.body s.init s.links m k × AreSown S (count + 1) (chans + length s.links) ss k n

-- after those before it, each finds its slot empty and its parent alive
abbrev pub MaySow : Declarations → ℕ → ℕ → List Seed → State → Type 0
MaySow S count chans seeds m = (before : List Seed) (s : Seed) (after : List Seed) (k : State) → seeds ≡ before ++ s ∷ after → AreSown S count chans before m k → MayPlant k s.place

-- how many items wait for c first, where the first of these has the number n
abbrev pub items_for : ℕ → ℕ → List Seed → ℕ
items_for c n [] = 0
items_for c n (s ∷ ss) = if c == n then length (items_of s.init) else items_for c (n + 1) ss

-- there is room for the control rows of these, of which the first has the number `count`
pub record HasRows (seeds : List Seed) (count : ℕ) (v : Parts) : Type 0 where
  pub rows : (c : ℕ) → count ≤ c → c < count + length seeds → has_row v c ≡ true
  pub controls : (c : ℕ) → items_for c count seeds ≤ control_spare v c

-- and for their queues, where the first channel has the number `chans`
pub record HasOwnRooms (seeds : List Seed) (count chans : ℕ) (v : Parts) : Type 0 where
  pub own : HasRows seeds count v
  pub queues : (x : ℕ) → chans ≤ x → x < chans + length (links_of seeds) → has_queues v x ≡ true

-- and for so many instances and channels
pub record HasRooms (seeds : List Seed) (count chans : ℕ) (v : Parts) : Type 0 where
  pub instances : length seeds ≤ instance_spare v
  pub channels : length (links_of seeds) ≤ channel_spare v
  pub each : HasOwnRooms seeds count chans v

-- the room is as before, less what they and their channels take
pub record TakesRooms (seeds : List Seed) (count : ℕ) (m n : Parts) : Type 0 where
  pub outs : n.numbers.outs ≡ m.numbers.outs
  pub counts : n.numbers.counts ≡ m.numbers.counts ++ map (λ s. length s.links) seeds
  pub instances : instance_spare m ≤ instance_spare n + length seeds
  pub channels : channel_spare m ≤ channel_spare n + length (links_of seeds)
  pub rows : (c : ℕ) → has_row n c ≡ has_row m c
  pub controls : (c : ℕ) → control_spare m c ≤ control_spare n c + items_for c count seeds
  pub queues : (x : ℕ) → has_queues n x ≡ has_queues m x
  pub queue_spares : (x : ℕ) (d : Dir) → queue_spare m x d ≤ queue_spare n x d
