-- The deques apart from their lots: what comes back to them, and what is taken out of them.
use Rattle.std.specs.Prelude.{◌≡◌, ◌+◌, ◌<◌, ◌≤◌, ℕ, List, map, length, take, Some, slice_get}
use Rattle.std.specs.List.{sum_by}
use Rattle.crossbeam_deque.specs.Handles.{worker_deque, worker_view}
use Rattle.kom_ready.specs.declared.guest.Guest.{Guest}
use Rattle.kom_ready.specs.declared.lots.Lot.{Lot}
use Rattle.kom_ready.specs.declared.rule.Hand.{Hand}
use Rattle.kom_ready.specs.declared.store.Store.{Store}
use Rattle.kom_ready.specs.Guests.{Deque, taken_by}
use Rattle.kom_ready.specs.Rule.{IsWithin}

abbrev pub store_view : Store → Hand
store_view s = worker_view s.own

abbrev pub store_deque : Store → Deque
store_deque s = worker_deque s.own

-- how much weighs what was put into the deques, and what was taken out
abbrev pub put_in : (ℕ → ℕ) → List Store → ℕ
put_in h stores = sum_by (λ s. sum_by h (store_view s).put) stores

abbrev pub taken_out : (ℕ → ℕ) → List Store → ℕ
taken_out h stores = sum_by (λ s. sum_by h (store_view s).taken) stores

-- the lots are taken apart, in order
pub record AreApart (lots : List Lot) (stores : List Store) (rows : List (List Guest)) : Type 0 where
  pub views : map store_view stores ≡ map (λ lot. worker_view lot.own) lots
  pub deques : map store_deque stores ≡ map (λ lot. worker_deque lot.own) lots
  pub rows_are : rows ≡ map (λ lot. lot.guests.items) lots

-- the pass came back to its deque
pub record IsBack (g : Guest) (old new : Store) : Type 0 where
  pub deque : store_deque new ≡ store_deque old
  pub parts : (store_view new).parts ≡ (store_view old).parts + 1
  pub put : (store_view new).put ≡ (store_view old).put
  pub taken : (h : ℕ → ℕ) → sum_by h (store_view new).taken ≡ sum_by h (store_view old).taken + taken_by h g
  pub within : IsWithin (store_view new)

-- the first j passes of a row came back, each to its deque
pub record IsMerged (j : ℕ) (row : List Guest) (old new : List Store) : Type 0 where
  pub deques : map store_deque new ≡ map store_deque old
  pub back : (m : ℕ) (s t : Store) → m < j → slice_get old m ≡ Some s → slice_get new m ≡ Some t → ((store_view t).parts ≡ (store_view s).parts + 1) × IsWithin (store_view t)
  pub same : (m : ℕ) (s t : Store) → j ≤ m → slice_get old m ≡ Some s → slice_get new m ≡ Some t → t ≡ s
  pub put : (h : ℕ → ℕ) → put_in h new ≡ put_in h old
  pub taken : (h : ℕ → ℕ) → taken_out h new ≡ taken_out h old + sum_by (taken_by h) (take j row)

-- the passes of the first i rows came back
pub record AreMerged (i : ℕ) (rows : List (List Guest)) (old new : List Store) : Type 0 where
  pub deques : map store_deque new ≡ map store_deque old
  pub parts : (m : ℕ) (s t : Store) → slice_get old m ≡ Some s → slice_get new m ≡ Some t → (store_view t).parts ≡ (store_view s).parts + i
  pub within : (m : ℕ) (t : Store) → 0 < i → slice_get new m ≡ Some t → IsWithin (store_view t)
  pub put : (h : ℕ → ℕ) → put_in h new ≡ put_in h old
  pub taken : (h : ℕ → ℕ) → taken_out h new ≡ taken_out h old + sum_by (λ row. sum_by (taken_by h) row) (take i rows)

-- all was taken out of the deque and put behind what was left
pub record IsDrained (old new : Store) (before after : List ℕ) : Type 0 where
  pub put : (store_view new).put ≡ (store_view old).put
  pub settled : (h : ℕ → ℕ) → sum_by h (store_view new).taken ≡ sum_by h (store_view new).put
  pub left : (h : ℕ → ℕ) → sum_by h after + sum_by h (store_view old).taken ≡ sum_by h before + sum_by h (store_view new).taken

-- so it is with the first j deques
pub record AreDrained (j : ℕ) (old new : List Store) (before after : List ℕ) : Type 0 where
  pub count : length new ≡ length old
  pub settled : (m : ℕ) (t : Store) → m < j → slice_get new m ≡ Some t → (h : ℕ → ℕ) → sum_by h (store_view t).taken ≡ sum_by h (store_view t).put
  pub same : (m : ℕ) (t : Store) → j ≤ m → slice_get new m ≡ Some t → slice_get old m ≡ Some t
  pub put : (h : ℕ → ℕ) → put_in h new ≡ put_in h old
  pub left : (h : ℕ → ℕ) → sum_by h after + taken_out h old ≡ sum_by h before + taken_out h new
