-- The room for several trees that are planted one after another, whatever comes between.
use Rattle.std.specs.Prelude.{◌≡◌, ◌≤◌, ℕ, ◌+◌, true, List, ◌++◌, length}
use Rattle.kom_state.specs.Parts.{Parts, instance_spare, channel_spare, control_spare, has_row, has_queues}
use Rattle.kom_births.specs.declared.seed.Seed.{Seed}
use Rattle.kom_births.specs.Seeds.{links_of}
use Rattle.kom_births.specs.Sowing.{HasRooms, TakesRooms}

-- room for these and those is room for these, and once they are planted, for those
pub record SharesRoom (these those : List Seed) (count chans : ℕ) (v : Parts) : Type 0 where
  pub first : HasRooms these count chans v
  pub then : (w : Parts) → TakesRooms these count v w → HasRooms those (count + length these) (chans + length (links_of these)) w

abbrev pub RoomsAreShared : Type 0
RoomsAreShared = (these those : List Seed) (count chans : ℕ) (v : Parts) → HasRooms (these ++ those) count chans v → SharesRoom these those count chans v

-- no room is taken from what has no number yet: the instances from `count` on, and the channels from `chans` on
pub record LeavesRoom (count chans : ℕ) (v w : Parts) : Type 0 where
  pub instances : instance_spare v ≤ instance_spare w
  pub channels : channel_spare v ≤ channel_spare w
  pub rows : (c : ℕ) → count ≤ c → has_row v c ≡ true → has_row w c ≡ true
  pub controls : (c : ℕ) → count ≤ c → control_spare v c ≤ control_spare w c
  pub queues : (x : ℕ) → chans ≤ x → has_queues v x ≡ true → has_queues w x ≡ true

abbrev pub RoomsAreLeft : Type 0
RoomsAreLeft = (seeds : List Seed) (count chans : ℕ) (v w : Parts) → HasRooms seeds count chans v → LeavesRoom count chans v w → HasRooms seeds count chans w
