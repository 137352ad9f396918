-- Which fronts the queues have, and the first of those that wait for a component.
use Rattle.std.specs.Prelude.{◌≡◌, ℕ, false, List, Option, Some, None}
use Rattle.std.specs.Option.{IsSome}
use Rattle.std.specs.Ordering.{nat_cmp, is_lt, on, then_cmp}
use Rattle.std.specs.declared.cmp.Ordering.{Ordering}
use Rattle.kom_base.specs.declared.numbers.Dir.{Dir}
use Rattle.kom_base.specs.declared.numbers.EntryNo.{EntryNo}
use Rattle.kom_base.specs.Lists.{first}
use Rattle.kom_index.specs.Entries.{value_of}
use Rattle.kom_queues.specs.declared.front.Front.{Front}
use Rattle.kom_queues.specs.declared.slot.Slot.{Slot}
use Rattle.kom_queues.specs.Fronts.{front_cmp, number_cmp, dir_index}
use Rattle.kom_queues.specs.Slots.{slot_of, queue_of, arrival_at}
use Rattle.kom_queues.specs.Waiting.{Waiting}

-- n stands at the front of direction d of channel x, which is aimed at c
pub record Arrives (m : List (ℕ × Slot)) (c x : ℕ) (d : Dir) (n : EntryNo) : Type 0 where
  pub queue : Waiting
  pub is : queue_of m x d ≡ Some queue
  pub aim : queue.aim ≡ Some c
  pub front : first queue.numbers ≡ Some n

-- by number, then by channel, then Plus before Minus
abbrev pub arrival_order : ℕ × Dir × EntryNo → ℕ × Dir × EntryNo → Ordering
arrival_order = then_cmp (on (λ a. a.2) number_cmp) (then_cmp (on (λ a. a.0) nat_cmp) (on (λ a. dir_index a.1) nat_cmp))

-- the least of what waits for c at the fronts of directions; none where nothing does
abbrev pub IsFirstAt : List (ℕ × Slot) → ℕ → Option (ℕ × Dir × EntryNo) → Type 0
IsFirstAt m c None = (x : ℕ) (d : Dir) (n : EntryNo) → ¬ (Arrives m c x d n)
IsFirstAt m c (Some a) = Arrives m c a.0 a.1 a.2 × ((x : ℕ) (d : Dir) (n : EntryNo) → Arrives m c x d n → is_lt (arrival_order (x, d, n) a) ≡ false)

-- the front is that of its direction
pub record Plugs (m : List (ℕ × Slot)) (f : Front) : Type 0 where
  pub slot : Slot
  pub is : slot_of m f.chan ≡ Some slot
  pub at : arrival_at slot f.dir ≡ f.at

abbrev pub HasFront : List (Front × Unit {0}) → Front → Type 0
HasFront fronts f = IsSome (value_of front_cmp f fronts)

-- the ordered fronts are those of the directions, one for each
pub record IsSound (m : List (ℕ × Slot)) (fronts : List (Front × Unit {0})) : Type 0 where
  pub plugged : (f : Front) → HasFront fronts f → Plugs m f
  pub complete : (f : Front) → Plugs m f → HasFront fronts f
