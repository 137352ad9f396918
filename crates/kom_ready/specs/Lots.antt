-- What a lot keeps, and which deques it is a lot of.
use Rattle.std.specs.Prelude.{◌≡◌, ◌≢◌, ◌+◌, ◌<◌, ◌≤◌, ℕ, List, [], map, length, take, Some, slice_get}
use Rattle.std.specs.List.{sum_by}
use Rattle.crossbeam_deque.specs.Handles.{stealer_deque, worker_deque, worker_view}
use Rattle.kom_ready.specs.declared.lots.Lot.{Lot}
use Rattle.kom_ready.specs.declared.lots.ReadySet.{ReadySet}
use Rattle.kom_ready.specs.Guests.{Deque, found_in, guest_deque}
use Rattle.kom_ready.specs.Rule.{all_parts}

-- the numbers that were pushed to the lot, in order
abbrev pub pushed_of : Lot → List ℕ
pushed_of lot = (worker_view lot.own).pushed

-- the numbers that the lot gave, in order
abbrev pub given_of : Lot → List ℕ
given_of lot = (worker_view lot.own).taken

-- how often the lot found the deque of a worker empty; the count stands still at the end of its type
abbrev pub found_of : Lot → ℕ → ℕ
found_of lot j = found_in lot.guests.items j

-- the deques of all workers, in order
abbrev pub deques_of : ReadySet → List Deque
deques_of set = map stealer_deque set.thieves.items

-- the deques to which a lot has passes, in order
abbrev pub passes_of : Lot → List Deque
passes_of lot = map guest_deque lot.guests.items

-- it is one of the lots of these deques, by its number
pub record IsLotOf (set : ReadySet) (lot : Lot) : Type 0 where
  pub own : slice_get (deques_of set) lot.number ≡ Some (worker_deque lot.own)
  pub guests : passes_of lot ≡ deques_of set
  pub parts : (worker_view lot.own).parts + length (deques_of set) ≡ all_parts

-- it is the same lot, whatever was pushed to it and given by it
pub record IsSameLot (old new : Lot) : Type 0 where
  pub number : new.number ≡ old.number
  pub own : worker_deque new.own ≡ worker_deque old.own
  pub guests : passes_of new ≡ passes_of old
  pub parts : (worker_view new.own).parts ≡ (worker_view old.own).parts

-- no count fell
abbrev pub NoneFell : Lot → Lot → Type 0
NoneFell old new = (j : ℕ) → found_of old j ≤ found_of new j

-- no count changed but that of worker k's deque
abbrev pub NoneElse : ℕ → Lot → Lot → Type 0
NoneElse k old new = (j : ℕ) → j ≢ k → found_of new j ≡ found_of old j

-- they are the lots of these deques, in order
pub record AreLotsOf (set : ReadySet) (lots : List Lot) : Type 0 where
  pub count : length lots ≡ length (deques_of set)
  pub numbers : (i : ℕ) (lot : Lot) → slice_get lots i ≡ Some lot → lot.number ≡ i
  pub each : (i : ℕ) (lot : Lot) → slice_get lots i ≡ Some lot → IsLotOf set lot

-- nothing was pushed to the lot, it gave nothing, and it found no deque empty
pub record IsFresh (lot : Lot) : Type 0 where
  pub pushed : pushed_of lot ≡ []
  pub given : given_of lot ≡ []
  pub found : (j : ℕ) → found_of lot j ≡ 0

abbrev pub AreFresh : List Lot → Type 0
AreFresh lots = (i : ℕ) (lot : Lot) → slice_get lots i ≡ Some lot → IsFresh lot

-- While the passes to the deques are made, one deque after another: the lot m is fresh and has passes to the deques
-- before the j-th, and to that one where m is below i; of the j-th deque c passes were cut off.
pub record IsLent (ds : List Deque) (j c i m : ℕ) (lot : Lot) : Type 0 where
  pub number : lot.number ≡ m
  pub own : slice_get ds m ≡ Some (worker_deque lot.own)
  pub fresh : IsFresh lot
  pub has : m < i → passes_of lot ≡ take (j + 1) ds
  pub has_not : i ≤ m → passes_of lot ≡ take j ds
  pub before : m < j → (worker_view lot.own).parts + length ds ≡ all_parts
  pub at : m ≡ j → (worker_view lot.own).parts + c ≡ all_parts
  pub behind : j < m → (worker_view lot.own).parts ≡ all_parts

pub record AreLent (ds : List Deque) (j c i : ℕ) (lots : List Lot) : Type 0 where
  pub count : length lots ≡ length ds
  pub each : (m : ℕ) (lot : Lot) → slice_get lots m ≡ Some lot → IsLent ds j c i m lot

-- how much what was pushed to the lots weighs, and how much what they gave
abbrev pub pushed_to : (ℕ → ℕ) → List Lot → ℕ
pushed_to h lots = sum_by (λ lot. sum_by h (pushed_of lot)) lots

abbrev pub given_by : (ℕ → ℕ) → List Lot → ℕ
given_by h lots = sum_by (λ lot. sum_by h (given_of lot)) lots
