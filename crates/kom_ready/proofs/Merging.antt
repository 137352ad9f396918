-- The passes come back to their deques.
use Rattle.std.proofs.Common.{◌≡◌, ◌≢◌, ℕ, zero, suc, ◌+◌, ◌<◌, List, [], ◌∷◌, length, set, get_or, take, drop, map, Some, refl, sym, ap, ◌∙◌, subst, ⊎_elim, arith}
use Rattle.std.specs.Prelude.{slice_get}
use Rattle.std.specs.List.{sum_by}
use Rattle.std.proofs.lemmas.List.Sums.{sum_by_more}
use Rattle.kom_ready.specs.declared.guest.Guest.{Guest}
use Rattle.kom_ready.specs.declared.store.Store.{Store}
use Rattle.kom_ready.specs.Guests.{taken_by}
use Rattle.kom_ready.specs.Rule.{IsWithin}
use Rattle.kom_ready.specs.Stores.{AreMerged, IsBack, IsMerged, store_deque, store_view}
use Rattle.kom_ready.proofs.Guested.{at_place, below_there, long_map, same_held, same_map, stands_at, weighs}
use Rattle.kom_ready.proofs.Lending.{at_place_of}

pub dropped_at : {X : Type 0} (xs : List X) (j : ℕ) (d : X) → get_or (drop j xs) 0 d ≡ get_or xs j d
dropped_at [] zero d = refl
dropped_at [] (suc j) d = refl
dropped_at (x ∷ xs) zero d = refl
dropped_at (x ∷ xs) (suc j) d = dropped_at xs j d

-- one more is dropped
pub drop_more : {X : Type 0} (xs : List X) (j : ℕ) → drop 1 (drop j xs) ≡ drop (j + 1) xs
drop_more xs j = go xs j ∙ ap (λ k. drop k xs) next
  where
    next : suc j ≡ j + 1
    next = omega arith

    go : {Y : Type 0} (ys : List Y) (k : ℕ) → drop 1 (drop k ys) ≡ drop (suc k) ys
    go [] zero = refl
    go [] (suc k) = refl
    go (y ∷ ys) zero = refl
    go (y ∷ ys) (suc k) = go ys k

pub some_at : {X : Type 0} (xs : List X) (m : ℕ) → m < length xs → (x : X) × (slice_get xs m ≡ Some x)
some_at [] m lt = absurd (omega (arith, lt))
some_at (x ∷ xs) zero lt = (x, refl)
some_at (x ∷ xs) (suc m) lt = some_at xs m (omega (arith, lt))

pub mapped_at : {X D : Type 0} (f : X → D) (xs : List X) (i : ℕ) (x : X) → i < length xs → x ≡ get_or xs i x → f x ≡ get_or (map f xs) i (f x)
mapped_at f [] i x lt at = absurd (omega (arith, lt))
mapped_at f (y ∷ ys) zero x lt at = ap f at
mapped_at f (y ∷ ys) (suc i) x lt at = mapped_at f ys i x (omega (arith, lt)) at

pub as_long : {X Y D : Type 0} (f : X → D) (g : Y → D) (xs : List X) (ys : List Y) → map f xs ≡ map g ys → length xs ≡ length ys
as_long f g xs ys e = sym (long_map f xs) ∙ ap length e ∙ long_map g ys

-- two lists with the same deques have the same at a place
pub same_at : {X Y D : Type 0} (f : X → D) (g : Y → D) (xs : List X) (ys : List Y) (j : ℕ) (x : X) (y : Y) → map f xs ≡ map g ys → j < length xs → x ≡ get_or xs j x → y ≡ get_or ys j y → f x ≡ g y
same_at f g xs ys j x y e lt at at' =
    let l = as_long f g xs ys e in
    same_held (f x) (g y) (sym (at_place f xs j x lt at) ∙ ap (λ ds. slice_get ds j) e ∙ at_place g ys j y (omega (arith, lt, l)) at')

pub nothing_yet : (row : List Guest) (old : List Store) → IsMerged 0 row old old
nothing_yet row old = record {
  deques = refl;
  back = λ m s t lt. absurd (omega (arith, lt));
  same = λ m s t le e f. same_held t s (sym f ∙ e);
  put = λ h. refl;
  taken = λ h. omega arith;
}

pub one_more : (j : ℕ) (row : List Guest) (old mid : List Store) (g : Guest) (s n : Store) → IsMerged j row old mid → j < length row → j < length mid → g ≡ get_or row j g → s ≡ get_or mid j s → IsBack g s n
    → IsMerged (j + 1) row old (set mid j n)
one_more j row old mid g s n m row_lt lt g_at s_at b = record {
  deques = same_map s n store_deque mid j lt s_at b.deque ∙ m.deques;
  back = λ k x t k_lt x_at t_at. ⊎_elim (λ (h : (k ≡ j) × (n ≡ t)).
      let same : s ≡ x = m.same j x s (omega arith) (ap (slice_get old) (sym h.0) ∙ x_at) (stands_at mid j s lt s_at) in
      (ap (λ y. (store_view y).parts) (sym h.1) ∙ b.parts ∙ ap (λ y. (store_view y).parts + 1) same, subst (λ y. IsWithin (store_view y)) h.1 b.within))
      (λ (h : (k ≢ j) × (slice_get mid k ≡ Some t)). let ne = h.0 in m.back k x t (omega (arith, k_lt, ne)) x_at h.1) (at_place_of mid j k n t t_at);
  same = λ k x t le x_at t_at. ⊎_elim (λ (h : (k ≡ j) × (n ≡ t)). absurd (let e = h.0 in omega (arith, le, e)))
      (λ (h : (k ≢ j) × (slice_get mid k ≡ Some t)). m.same k x t (omega (arith, le)) x_at h.1) (at_place_of mid j k n t t_at);
  put = λ h.
      let a = weighs s n (λ y. sum_by h (store_view y).put) mid j lt s_at in
      let e = ap (sum_by h) b.put in
      let r = m.put h in
      omega (arith, a, e, r);
  taken = λ h.
      let a = weighs s n (λ y. sum_by h (store_view y).taken) mid j lt s_at in
      let e = b.taken h in
      let r = m.taken h in
      let t = sum_by_more (taken_by h) row j g row_lt in
      let k = ap (taken_by h) g_at in
      omega (arith, a, e, r, t, k);
}

pub none_merged : (rows : List (List Guest)) (old : List Store) → AreMerged 0 rows old old
none_merged rows old = record {
  deques = refl;
  parts = λ m s t e f. let k = ap (λ y. (store_view y).parts) (same_held t s (sym f ∙ e)) in omega (arith, k);
  within = λ m t lt. absurd (omega (arith, lt));
  put = λ h. refl;
  taken = λ h. omega arith;
}

pub row_more : (i : ℕ) (rows : List (List Guest)) (row : List Guest) (old mid new : List Store) → AreMerged i rows old mid → i < length rows → row ≡ get_or rows i row → length row ≡ length mid → IsMerged (length mid) row mid new → AreMerged (i + 1) rows old new
row_more i rows row old mid new a lt at long m = record {
  deques = m.deques ∙ a.deques;
  parts = λ k s t s_at t_at.
      let there = below_there old k s s_at in
      let l = as_long store_deque store_deque mid old a.deques in
      let x = some_at mid k (omega (arith, there, l)) in
      let p = (m.back k x.0 t (omega (arith, there, l)) x.1 t_at).0 in
      let q = a.parts k s x.0 s_at x.1 in
      omega (arith, p, q);
  within = λ k t _ t_at.
      let there = below_there new k t t_at in
      let l = as_long store_deque store_deque new mid m.deques in
      let x = some_at mid k (omega (arith, there, l)) in
      (m.back k x.0 t (omega (arith, there, l)) x.1 t_at).1;
  put = λ h. m.put h ∙ a.put h;
  taken = λ h.
      let p = m.taken h in
      let q = a.taken h in
      let t = sum_by_more (λ r. sum_by (taken_by h) r) rows i row lt in
      let k = ap (sum_by (taken_by h)) at in
      let w = ap (λ r. sum_by (taken_by h) r) (whole row (length mid) (sym long)) in
      omega (arith, p, q, t, k, w);
}
  where
    whole : (r : List Guest) (n : ℕ) → n ≡ length r → take n r ≡ r
    whole r n e = ap (λ k. take k r) e ∙ all r
      where
        all : (zs : List Guest) → take (length zs) zs ≡ zs
        all [] = refl
        all (z ∷ zs) = ap (λ ws. z ∷ ws) (all zs)
