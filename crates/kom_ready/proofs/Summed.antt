-- What is gathered is what was pushed and not given.
use Rattle.std.proofs.Common.{◌≡◌, ℕ, zero, suc, ◌+◌, ◌≤◌, List, [], ◌∷◌, length, take, map, Some, refl, sym, ap, ◌∙◌, arith}
use Rattle.std.specs.Prelude.{slice_get}
use Rattle.std.specs.List.{sum_by}
use Rattle.std.proofs.lemmas.List.Sums.{sum_by-cons}
use Rattle.crossbeam_deque.specs.Handles.{worker_deque, worker_view}
use Rattle.kom_ready.specs.declared.guest.Guest.{Guest}
use Rattle.kom_ready.specs.declared.lots.Lot.{Lot}
use Rattle.kom_ready.specs.declared.lots.ReadySet.{ReadySet}
use Rattle.kom_ready.specs.declared.rule.Hand.{Hand}
use Rattle.kom_ready.specs.declared.store.Store.{Store}
use Rattle.kom_ready.specs.Guests.{guest_deque, taken_by}
use Rattle.kom_ready.specs.Lots.{AreLotsOf, deques_of, given_by, pushed_of, pushed_to}
use Rattle.kom_ready.specs.Rule.{IsWithin, all_parts}
use Rattle.kom_ready.specs.Stores.{AreApart, AreDrained, AreMerged, put_in, store_deque, store_view, taken_out}
use Rattle.kom_ready.proofs.Emptied.{all_settled}
use Rattle.kom_ready.proofs.Guested.{below_there, long_map, ones, same_held}
use Rattle.kom_ready.proofs.Merging.{as_long, some_at}

sum_mapped : {X Y : Type 0} (f : Y → ℕ) (g : X → Y) (xs : List X) → sum_by f (map g xs) ≡ sum_by (λ x. f (g x)) xs
sum_mapped f g [] = refl
sum_mapped f g (x ∷ xs) =
    let a = sum_by-cons f (g x) (map g xs) in
    let b = sum_by-cons (λ y. f (g y)) x xs in
    let r = sum_mapped f g xs in
    omega (arith, a, b, r)

-- what stands at a place of a mapped list
unmapped : {X Y : Type 0} (f : X → Y) (xs : List X) (i : ℕ) (y : Y) → slice_get (map f xs) i ≡ Some y → (x : X) × (slice_get xs i ≡ Some x) × (f x ≡ y)
unmapped f [] i y e = absurd (cc e)
unmapped f (x ∷ xs) zero y e = (x, refl, same_held (f x) y e)
unmapped f (x ∷ xs) (suc i) y e = unmapped f xs i y e

mapped : {X Y : Type 0} (f : X → Y) (xs : List X) (i : ℕ) (x : X) → slice_get xs i ≡ Some x → slice_get (map f xs) i ≡ Some (f x)
mapped f [] i x e = absurd (cc e)
mapped f (y ∷ ys) zero x e = ap (λ z. Some (f z)) (same_held y x e)
mapped f (y ∷ ys) (suc i) x e = mapped f ys i x e

all_of : {X D : Type 0} (f : X → D) (xs : List X) (ds : List D) → length xs ≡ length ds → ((i : ℕ) (x : X) → slice_get xs i ≡ Some x → slice_get ds i ≡ Some (f x)) → map f xs ≡ ds
all_of f [] [] l h = refl
all_of f [] (d ∷ ds) l h = absurd (omega (arith, l))
all_of f (x ∷ xs) [] l h = absurd (omega (arith, l))
all_of f (x ∷ xs) (d ∷ ds) l h = λ k. same_held (f x) d (sym (h 0 x refl)) k ∷ all_of f xs ds (omega (arith, l)) (λ i y e. h (suc i) y e) k

pub few_lots : (rs : ReadySet) (lots : List Lot) → AreLotsOf rs lots → length lots ≤ 1024
few_lots rs [] are = omega arith
few_lots rs (lot ∷ lots) are = let p = (are.each 0 lot refl).parts in let c = are.count in omega (arith, p, c)

abbrev put_of : (ℕ → ℕ) → Lot → ℕ
put_of h lot = sum_by h (worker_view lot.own).put

abbrev moved_by : (ℕ → ℕ) → Lot → ℕ
moved_by h lot = sum_by (taken_by h) lot.guests.items

abbrev view_of : Lot → Hand
view_of lot = worker_view lot.own

module _ (rs : ReadySet) (lots : List Lot) (stores : List Store) (rows : List (List Guest)) (are : AreLotsOf rs lots) (apart : AreApart lots stores rows) where
  pub as_many : length rows ≡ length lots
  as_many = ap length apart.rows_are ∙ long_map (λ lot. lot.guests.items) lots

  deques : map store_deque stores ≡ deques_of rs
  deques = apart.deques ∙ all_of (λ lot. worker_deque lot.own) lots (deques_of rs) are.count (λ i lot e. ap (slice_get (deques_of rs)) (sym (are.numbers i lot e)) ∙ (are.each i lot e).own)

  pub row_fits : (i : ℕ) (row : List Guest) → slice_get rows i ≡ Some row → map guest_deque row ≡ map store_deque stores
  row_fits i row e =
      let x = unmapped (λ lot. lot.guests.items) lots i row (ap (λ rs. slice_get rs i) (sym apart.rows_are) ∙ e) in
      ap (map guest_deque) (sym x.2) ∙ (are.each i x.0 x.1).guests ∙ sym deques

  module _ (new : List Store) (merged : AreMerged (length rows) rows stores new) where
    pub all_full : (m : ℕ) (s : Store) → slice_get new m ≡ Some s → ((store_view s).parts ≡ all_parts) × IsWithin (store_view s)
    all_full m s at =
        let there = below_there new m s at in
        let l = as_long store_deque store_deque new stores merged.deques in
        let old = some_at stores m (omega (arith, there, l)) in
        let lot = unmapped view_of lots m (store_view old.0) (ap (λ vs. slice_get vs m) (sym apart.views) ∙ mapped store_view stores m old.0 old.1) in
        let p = merged.parts m old.0 s old.1 at in
        let q = (are.each m lot.0 lot.1).parts in
        let e = ap (λ (v : Hand). v.parts) lot.2 in
        let n = as_many in
        let c = are.count in
        let some = below_there lots m lot.0 lot.1 in
        (omega (arith, p, q, e, n, c), merged.within m s (omega (arith, some, n)) at)

    abbrev moved : (ℕ → ℕ) → ℕ
    moved h = sum_by (λ row. sum_by (taken_by h) row) rows

    sum_of_lots : (h : ℕ → ℕ) (ls : List Lot) → sum_by (put_of h) ls ≡ pushed_to h ls + sum_by (moved_by h) ls
    sum_of_lots h [] = refl
    sum_of_lots h (lot ∷ ls) =
        let a = sum_by-cons (put_of h) lot ls in
        let b = sum_by-cons (λ (lot : Lot). sum_by h (pushed_of lot)) lot ls in
        let c = sum_by-cons (moved_by h) lot ls in
        let e = lot.balanced h in
        let r = sum_of_lots h ls in
        omega (arith, a, b, c, e, r)

    put_all : (h : ℕ → ℕ) → put_in h stores ≡ pushed_to h lots + moved h
    put_all h =
        let a = sum_mapped (λ (v : Hand). sum_by h v.put) store_view stores in
        let b = ap (sum_by (λ (v : Hand). sum_by h v.put)) apart.views in
        let c = sum_mapped (λ (v : Hand). sum_by h v.put) view_of lots in
        let d = sum_of_lots h lots in
        let e = ap (sum_by (λ row. sum_by (taken_by h) row)) apart.rows_are in
        let f = sum_mapped (λ row. sum_by (taken_by h) row) (λ lot. lot.guests.items) lots in
        omega (arith, a, b, c, d, e, f)

    taken_all : (h : ℕ → ℕ) → taken_out h stores ≡ given_by h lots
    taken_all h =
        let a = sum_mapped (λ (v : Hand). sum_by h v.taken) store_view stores in
        let b = ap (sum_by (λ (v : Hand). sum_by h v.taken)) apart.views in
        let c = sum_mapped (λ (v : Hand). sum_by h v.taken) view_of lots in
        omega (arith, a, b, c)

    whole : (rs : List (List Guest)) → take (length rs) rs ≡ rs
    whole [] = refl
    whole (r ∷ rs) = ap (λ zs. r ∷ zs) (whole rs)

    taken_after : (h : ℕ → ℕ) → taken_out h new ≡ given_by h lots + moved h
    taken_after h =
        let a = merged.taken h in
        let b = taken_all h in
        let c = ap (sum_by (λ row. sum_by (taken_by h) row)) (whole rows) in
        omega (arith, a, b, c)

    each_one : (ls : List Lot) → pushed_to (λ _. 1) ls ≡ sum_by (λ (lot : Lot). length (pushed_of lot)) ls
    each_one [] = refl
    each_one (lot ∷ ls) =
        let a = sum_by-cons (λ (lot : Lot). sum_by (λ _. 1) (pushed_of lot)) lot ls in
        let b = sum_by-cons (λ (lot : Lot). length (pushed_of lot)) lot ls in
        let e = ones (pushed_of lot) in
        let r = each_one ls in
        omega (arith, a, b, e, r)

    pub enough_room : (capacity : ℕ) → sum_by (λ (lot : Lot). length (pushed_of lot)) lots ≤ capacity → put_in (λ _. 1) new ≤ taken_out (λ _. 1) new + capacity
    enough_room capacity most =
        let a = merged.put (λ _. 1) in
        let b = put_all (λ _. 1) in
        let c = taken_after (λ _. 1) in
        let e = each_one lots in
        omega (arith, a, b, c, e, most)

    pub all_gathered : (last : List Store) (left : List ℕ) → AreDrained (length new) new last [] left → (h : ℕ → ℕ) → pushed_to h lots ≡ given_by h lots + sum_by h left
    all_gathered last left drained h =
        let a = merged.put h in
        let b = put_all h in
        let c = taken_after h in
        let d = drained.left h in
        let e = all_settled new last [] left drained h in
        let f = drained.put h in
        omega (arith, a, b, c, d, e, f)
