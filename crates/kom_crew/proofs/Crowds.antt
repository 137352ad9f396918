-- Lists of workers.
use Rattle.std.proofs.Common.{◌≡◌, ⊎_elim, ℕ, zero, suc, ◌+◌, ◌<◌, ◌≤◌, ◌≢◌, refl, sym, ap, ◌∙◌, subst, List, [], ◌∷◌, length, map, set, get_or, arith}
use Rattle.std.specs.Prelude.{Some, slice_get}
use Rattle.kom_ready.proofs.Guested.{below_there, stands_at, same_held}
use Rattle.kom_ready.proofs.Lending.{at_place_of, length_set}
use Rattle.kom_crew.specs.declared.worker.Worker.{Worker}
use Rattle.kom_crew.specs.Workers.{EachOf}

-- ---- lists

pub there_at : {X : Type 0} (xs : List X) (i : ℕ) → i < length xs → (x : X) × (slice_get xs i ≡ Some x)
there_at [] i lt = absurd (omega (arith, lt))
there_at (x ∷ xs) zero lt = (x, refl)
there_at (x ∷ xs) (suc i) lt = there_at xs i (omega (arith, lt))

pub map_there : {X Y : Type 0} (f : X → Y) (xs : List X) (i : ℕ) (x : X) → slice_get xs i ≡ Some x → slice_get (map f xs) i ≡ Some (f x)
map_there f [] i x e = absurd cc
map_there f (y ∷ ys) zero x e = ap (λ z. Some (f z)) (same_held y x e)
map_there f (y ∷ ys) (suc i) x e = map_there f ys i x e

pub there_of_map : {X Y : Type 0} (f : X → Y) (xs : List X) (i : ℕ) (y : Y) → slice_get (map f xs) i ≡ Some y → (x : X) × (slice_get xs i ≡ Some x) × (f x ≡ y)
there_of_map f [] i y e = absurd cc
there_of_map f (x ∷ xs) zero y e = (x, refl, same_held (f x) y e)
there_of_map f (x ∷ xs) (suc i) y e = there_of_map f xs i y e

pub index_there : {X : Type 0} (xs : List X) (i : ℕ) (x d : X) → slice_get xs i ≡ Some x → get_or xs i d ≡ x
index_there [] i x d e = absurd cc
index_there (y ∷ ys) zero x d e = same_held y x e
index_there (y ∷ ys) (suc i) x d e = index_there ys i x d e

-- ---- workers

-- Q holds of the first i
abbrev pub Firsts : (Worker → Type 0) → ℕ → List Worker → Type 0
Firsts Q i ws = (k : ℕ) (w : Worker) → k < i → slice_get ws k ≡ Some w → Q w

pub none_first : (Q : Worker → Type 0) (ws : List Worker) → Firsts Q 0 ws
none_first Q ws k w lt e = absurd (omega (arith, lt))

pub each_weaker : (n : ℕ) (P Q : Worker → Type 0) (ws : List Worker) → ((w : Worker) → P w → Q w) → EachOf n P ws → EachOf n Q ws
each_weaker n P Q ws f each = (each.0, λ k w e. ((each.1 k w e).0, f w (each.1 k w e).1))

pub at_each : (n : ℕ) (P : Worker → Type 0) (ws : List Worker) (i : ℕ) (w : Worker) → EachOf n P ws → i < length ws → w ≡ get_or ws i w → P w
at_each n P ws i w each lt at = (each.1 i w (stands_at ws i w lt at)).1

-- one of them has changed
pub each_set : (n : ℕ) (P : Worker → Type 0) (ws : List Worker) (i : ℕ) (old new : Worker) → EachOf n P ws → i < length ws → old ≡ get_or ws i old → new.seat.number ≡ old.seat.number → P new → EachOf n P (set ws i new)
each_set n P ws i old new each lt at number p = (
  length_set ws i new ∙ each.0,
  λ k w e. ⊎_elim
      (λ (h : (k ≡ i) × (new ≡ w)). (ap (λ (x : Worker). x.seat.number) (sym h.1) ∙ (number ∙ ((each.1 i old (stands_at ws i old lt at)).0 ∙ sym h.0)), subst P h.1 p))
      (λ (h : (k ≢ i) × (slice_get ws k ≡ Some w)). each.1 k w h.1)
      (at_place_of ws i k new w e),
)

pub firsts_set : (Q : Worker → Type 0) (ws : List Worker) (i : ℕ) (new : Worker) → Firsts Q i ws → Q new → Firsts Q (i + 1) (set ws i new)
firsts_set Q ws i new firsts q k w lt e = ⊎_elim
    (λ (h : (k ≡ i) × (new ≡ w)). subst Q h.1 q)
    (λ (h : (k ≢ i) × (slice_get ws k ≡ Some w)). firsts k w (let d = h.0 in omega (arith, lt, d)) h.1)
    (at_place_of ws i k new w e)

pub all_first : (n : ℕ) (P Q : Worker → Type 0) (ws : List Worker) (i : ℕ) → EachOf n P ws → Firsts Q i ws → length ws ≤ i → EachOf n Q ws
all_first n P Q ws i each firsts le = (each.0, λ k w e. ((each.1 k w e).0, firsts k w (omega (arith, le, below_there ws k w e)) e))

-- each of them has changed
pub each_changed : (n : ℕ) (P Q : Worker → Type 0) (xs ys : List Worker) → EachOf n P xs → length ys ≡ length xs
    → ((k : ℕ) (w : Worker) → k < length xs → (a : Worker) × (b : Worker) × (a ≡ get_or xs k w) × (b ≡ get_or ys k w) × (b.seat.number ≡ a.seat.number) × Q b)
    → EachOf n Q ys
each_changed n P Q xs ys each len f = (
  len ∙ each.0,
  λ k w e.
      let lt : k < length xs = omega (arith, len, below_there ys k w e) in
      let h = f k w lt in
      let x = there_at xs k lt in
      let new : h.1 ≡ w = h.3 ∙ index_there ys k w w e in
      let old : h.0 ≡ x.0 = h.2 ∙ index_there xs k x.0 w x.1 in (
        ap (λ (z : Worker). z.seat.number) (sym new) ∙ (h.4 ∙ (ap (λ (z : Worker). z.seat.number) old ∙ (each.1 k x.0 x.1).0)),
        subst Q new h.5,
      ),
)
