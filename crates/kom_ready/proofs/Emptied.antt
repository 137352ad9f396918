-- The deques are emptied one after another.
use Rattle.std.proofs.Common.{◌≡◌, ◌≢◌, ℕ, zero, suc, ◌+◌, ◌<◌, ◌≤◌, List, [], ◌∷◌, length, set, get_or, Some, refl, ap, ◌∙◌, subst, ◌⊎◌, inl, inr, ⊎_elim, arith}
use Rattle.std.specs.Prelude.{slice_get}
use Rattle.std.specs.List.{sum_by}
use Rattle.std.proofs.lemmas.List.Sums.{sum_by-cons}
use Rattle.kom_ready.specs.declared.store.Store.{Store}
use Rattle.kom_ready.specs.Rule.{IsWithin, all_parts}
use Rattle.kom_ready.specs.Stores.{AreDrained, IsDrained, put_in, store_view, taken_out}
use Rattle.kom_ready.proofs.Guested.{below_there, ones, weighs}
use Rattle.kom_ready.proofs.Lending.{at_place_of, length_set}

-- where each takes no more than it puts, so do all but one
rest_within : (f g : Store → ℕ) (xs : List Store) (j : ℕ) (s : Store) → j < length xs → s ≡ get_or xs j s → ((m : ℕ) (x : Store) → slice_get xs m ≡ Some x → f x ≤ g x) → sum_by f xs + g s ≤ sum_by g xs + f s
rest_within f g [] j s lt at h = absurd (omega (arith, lt))
rest_within f g (x ∷ xs) zero s lt at h =
    let a = sum_by-cons f x xs in
    let b = sum_by-cons g x xs in
    let e = ap f at in
    let k = ap g at in
    let r = below xs (λ m y q. h (suc m) y q) in
    omega (arith, a, b, e, k, r)
  where
    below : (ys : List Store) → ((m : ℕ) (y : Store) → slice_get ys m ≡ Some y → f y ≤ g y) → sum_by f ys ≤ sum_by g ys
    below [] q = omega arith
    below (y ∷ ys) q =
        let a = sum_by-cons f y ys in
        let b = sum_by-cons g y ys in
        let e = q 0 y refl in
        let r = below ys (λ m z k. q (suc m) z k) in
        omega (arith, a, b, e, r)
rest_within f g (x ∷ xs) (suc j) s lt at h =
    let a = sum_by-cons f x xs in
    let b = sum_by-cons g x xs in
    let e = h 0 x refl in
    let r = rest_within f g xs j s (omega (arith, lt)) at (λ m y q. h (suc m) y q) in
    omega (arith, a, b, e, r)

module _ (j : ℕ) (old mid : List Store) (before here : List ℕ) (d : AreDrained j old mid before here)
    (full : (m : ℕ) (s : Store) → slice_get old m ≡ Some s → ((store_view s).parts ≡ all_parts) × IsWithin (store_view s)) where
  keeps_within : (m : ℕ) (x : Store) → slice_get mid m ≡ Some x → sum_by (λ _. 1) (store_view x).taken ≤ sum_by (λ _. 1) (store_view x).put
  keeps_within m x at = go (early_or_late m j)
    where
      early_or_late : (a b : ℕ) → (a < b) ⊎ (b ≤ a)
      early_or_late a zero = inr (omega arith)
      early_or_late zero (suc b) = inl (omega arith)
      early_or_late (suc a) (suc b) = ⊎_elim (λ h. inl (omega (arith, h))) (λ h. inr (omega (arith, h))) (early_or_late a b)

      go : (m < j) ⊎ (j ≤ m) → sum_by (λ _. 1) (store_view x).taken ≤ sum_by (λ _. 1) (store_view x).put
      go (inl lt) = let e = d.settled m x lt at (λ _. 1) in omega (arith, e)
      go (inr le) = let f = full m x (d.same m x le at) in f.1 f.0 (λ _. 1)

  -- there is room for what the next one holds
  pub room_for : (capacity : ℕ) (s : Store) → j < length mid → s ≡ get_or mid j s → put_in (λ _. 1) old + length before ≤ taken_out (λ _. 1) old + capacity
      → length (store_view s).put + length here ≤ length (store_view s).taken + capacity
  room_for capacity s lt at room =
      let a = rest_within (λ x. sum_by (λ _. 1) (store_view x).taken) (λ x. sum_by (λ _. 1) (store_view x).put) mid j s lt at keeps_within in
      let p = ones (store_view s).put in
      let t = ones (store_view s).taken in
      let q = d.put (λ _. 1) in
      let l = d.left (λ _. 1) in
      let b = ones before in
      let n = ones here in
      omega (arith, a, p, t, q, l, b, n, room)

  pub one_emptied : (s n : Store) (after : List ℕ) → j < length mid → s ≡ get_or mid j s → IsDrained s n here after → AreDrained (j + 1) old (set mid j n) before after
  one_emptied s n after lt at e = record {
    count = length_set mid j n ∙ d.count;
    settled = λ k t k_lt t_at h. ⊎_elim (λ (q : (k ≡ j) × (n ≡ t)). subst (λ y. sum_by h (store_view y).taken ≡ sum_by h (store_view y).put) q.1 (e.settled h))
        (λ (q : (k ≢ j) × (slice_get mid k ≡ Some t)). let ne = q.0 in d.settled k t (omega (arith, k_lt, ne)) q.1 h) (at_place_of mid j k n t t_at);
    same = λ k t le t_at. ⊎_elim (λ (q : (k ≡ j) × (n ≡ t)). absurd (let r = q.0 in omega (arith, le, r))) (λ (q : (k ≢ j) × (slice_get mid k ≡ Some t)). d.same k t (omega (arith, le)) q.1) (at_place_of mid j k n t t_at);
    put = λ h.
        let a = weighs s n (λ y. sum_by h (store_view y).put) mid j lt at in
        let k = ap (sum_by h) e.put in
        let r = d.put h in
        omega (arith, a, k, r);
    left = λ h.
        let a = weighs s n (λ y. sum_by h (store_view y).taken) mid j lt at in
        let k = e.left h in
        let r = d.left h in
        omega (arith, a, k, r);
  }

-- all are settled
pub all_settled : (old new : List Store) (before after : List ℕ) → AreDrained (length old) old new before after → (h : ℕ → ℕ) → taken_out h new ≡ put_in h new
all_settled old new before after d h = go new (λ m x at lt. d.settled m x lt at h) (λ m lt. let c = d.count in omega (arith, c, lt))
  where
    go : (xs : List Store) → ((m : ℕ) (x : Store) → slice_get xs m ≡ Some x → m < length old → sum_by h (store_view x).taken ≡ sum_by h (store_view x).put) → ((m : ℕ) → m < length xs → m < length old)
        → sum_by (λ s. sum_by h (store_view s).taken) xs ≡ sum_by (λ s. sum_by h (store_view s).put) xs
    go xs each small = sums xs (λ m x at. each m x at (small m (below_there xs m x at)))
      where
        sums : (zs : List Store) → ((m : ℕ) (x : Store) → slice_get zs m ≡ Some x → sum_by h (store_view x).taken ≡ sum_by h (store_view x).put) → sum_by (λ s. sum_by h (store_view s).taken) zs ≡ sum_by (λ s. sum_by h (store_view s).put) zs
        sums [] q = refl
        sums (z ∷ zs) q =
            let a = sum_by-cons (λ s. sum_by h (store_view s).taken) z zs in
            let b = sum_by-cons (λ s. sum_by h (store_view s).put) z zs in
            let e = q 0 z refl in
            let r = sums zs (λ m x k. q (suc m) x k) in
            omega (arith, a, b, e, r)
