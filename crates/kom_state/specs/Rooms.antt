-- What a change leaves of the room and the numbers.
use Rattle.std.specs.Prelude.{◌≡◌, ◌≤◌, ℕ, Bool, true, false}
use Rattle.kom_base.specs.declared.numbers.Dir.{Dir}
use Rattle.kom_refine.specs.States.{State}
use Rattle.kom_refine.specs.Steps.{SameTree, SameLinks, SameQueues, SameControls, SameBodies}
use Rattle.kom_state.specs.Parts.{Parts, instance_spare, channel_spare, control_spare, has_row, queue_spare, has_queues}

-- the numbers are the same, and there is room for as many instances and channels, and for rows and
-- queues of the same
pub record KeepsRoom (m n : Parts) : Type 0 where
  pub numbers : n.numbers ≡ m.numbers
  pub instances : instance_spare n ≡ instance_spare m
  pub channels : channel_spare n ≡ channel_spare m
  pub rows : (c : ℕ) → has_row n c ≡ has_row m c
  pub queues : (x : ℕ) → has_queues n x ≡ has_queues m x

-- and for as many control items and numbers
abbrev pub KeepsControls : Parts → Parts → Type 0
KeepsControls m n = (c : ℕ) → control_spare n c ≡ control_spare m c

abbrev pub KeepsQueues : Parts → Parts → Type 0
KeepsQueues m n = (x : ℕ) (d : Dir) → queue_spare n x d ≡ queue_spare m x d

-- the channels have the same numbers, and there is no less room for anything
pub record HasNoLess (m n : Parts) : Type 0 where
  pub outs : n.numbers.outs ≡ m.numbers.outs
  pub counts : n.numbers.counts ≡ m.numbers.counts
  pub instances : instance_spare m ≤ instance_spare n
  pub channels : channel_spare m ≤ channel_spare n
  pub controls : (c : ℕ) → control_spare m c ≤ control_spare n c
  pub rows : (c : ℕ) → has_row m c ≡ true → has_row n c ≡ true
  pub numbers : (x : ℕ) (d : Dir) → queue_spare m x d ≤ queue_spare n x d
  pub queues : (x : ℕ) → has_queues m x ≡ true → has_queues n x ≡ true

-- the states have the same in all their parts
pub record IsSame (m n : State) : Type 0 where
  pub tree : SameTree m n
  pub links : SameLinks m n
  pub queues : SameQueues m n
  pub controls : SameControls m n
  pub bodies : SameBodies m n

-- the channels have the same numbers, and there is as much room, but for what has ended: its
-- components, of which `ends` tells, and its channels, of which `dies` tells
pub record FreesRoom (ends dies : ℕ → Bool) (m n : Parts) : Type 0 where
  pub numbers : n.numbers ≡ m.numbers
  pub instances : instance_spare n ≡ instance_spare m
  pub channels : channel_spare m ≤ channel_spare n
  pub rows : (c : ℕ) → has_row n c ≡ has_row m c
  pub controls : (c : ℕ) → ends c ≡ false → control_spare n c ≡ control_spare m c
  pub queues : (x : ℕ) → dies x ≡ false → has_queues n x ≡ has_queues m x
  pub queue_spares : (x : ℕ) (d : Dir) → dies x ≡ false → queue_spare n x d ≡ queue_spare m x d
