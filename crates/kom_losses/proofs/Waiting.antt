-- How many events wait in the channels that a test names.
use Rattle.std.proofs.Common.{◌≡◌, ℕ, zero, suc, ◌+◌, ◌<◌, ◌≤◌, Bool, true, false, if◌then◌else◌, ◌&&◌, ◌||◌, refl, sym, ap, ◌∙◌, ◌⊎◌, inl, inr, arith}
use Rattle.std.specs.Prelude.{nat_le, nat_lt}
use Rattle.std.proofs.lemmas.Bool.{cases_eq, le-leb, lt-ltb, leb-true, ltb-true}
use Rattle.kom_refine.specs.States.{State}
use Rattle.kom_queued.specs.Counting.{waiting_at, waiting_below, waiting_in}

-- x is one of n numbers from a on
abbrev pub within : ℕ → ℕ → ℕ → Bool
within a n x = nat_le a x && nat_lt x (a + n)

module _ (m : State) where
  pub in_same : (f g : ℕ → Bool) (k : ℕ) → ((x : ℕ) → (f x ≡ g x) ⊎ (waiting_at m x ≡ 0)) → waiting_in m f k ≡ waiting_in m g k
  in_same f g zero h = refl
  in_same f g (suc k) h =
      let a = in_same f g k h in
      let b = at k (h k) in
      omega (arith, a, b)
    where
      at : (x : ℕ) → (f x ≡ g x) ⊎ (waiting_at m x ≡ 0) → (if f x then waiting_at m x else 0) ≡ (if g x then waiting_at m x else 0)
      at x (inl e) = ap (λ b. if b then waiting_at m x else 0) e
      at x (inr e) = none (f x) ∙ sym (none (g x))
        where
          none : (b : Bool) → (if b then waiting_at m x else 0) ≡ 0
          none true = e
          none false = refl

  pub in_sum : (f g h : ℕ → Bool) (k : ℕ) → ((x : ℕ) → h x ≡ (f x || g x)) → ((x : ℕ) → f x ≡ true → g x ≡ true → ⊥) → waiting_in m h k ≡ waiting_in m f k + waiting_in m g k
  in_sum f g h zero e apart = refl
  in_sum f g h (suc k) e apart =
      let a = in_sum f g h k e apart in
      let b = ap (λ b. if b then waiting_at m k else 0) (e k) ∙ at (f k) (g k) (apart k) in
      omega (arith, a, b)
    where
      at : (p q : Bool) → (p ≡ true → q ≡ true → ⊥) → (if (p || q) then waiting_at m k else 0) ≡ (if p then waiting_at m k else 0) + (if q then waiting_at m k else 0)
      at true true n = absurd (n refl refl)
      at true false n = omega arith
      at false q n = omega arith

  pub in_most : (f : ℕ → Bool) (k : ℕ) → waiting_in m f k ≤ waiting_below m k
  in_most f zero = omega arith
  in_most f (suc k) = let a = in_most f k in let b = at (f k) in omega (arith, a, b)
    where
      at : (b : Bool) → (if b then waiting_at m k else 0) ≤ waiting_at m k
      at true = omega arith
      at false = omega arith

  pub in_none : (f : ℕ → Bool) (k : ℕ) → ((x : ℕ) → f x ≡ false) → waiting_in m f k ≡ 0
  in_none f zero h = refl
  in_none f (suc k) h = let a = in_none f k h in let b = ap (λ b. if b then waiting_at m k else 0) (h k) in omega (arith, a, b)

  -- ---- a span of channels

  pub grows : (a b : ℕ) → a ≤ b → waiting_below m a ≤ waiting_below m b
  grows a zero l = ap-le (let e : a ≡ 0 = omega (arith, l) in e)
    where
      ap-le : a ≡ 0 → waiting_below m a ≤ 0
      ap-le e = let f = ap (waiting_below m) e in omega (arith, f)
  grows a (suc b) l = elim (cases_eq a (suc b)) [
    | inl e ↦ (let f = ap (waiting_below m) e in omega (arith, f))
    | inr f ↦ (let g : a ≡ suc b → ⊥ = f in let r = grows a b (omega (arith, l, g)) in omega (arith, r))
  ]

  span : (a n x : ℕ) → a ≤ x → x < a + n → within a n x ≡ true
  span a n x l h = ap (λ b. b && nat_lt x (a + n)) (le-leb a x l) ∙ lt-ltb x (a + n) h

  before : (a n x : ℕ) → x < a → within a n x ≡ false
  before a n x h = ap (λ b. b && nat_lt x (a + n)) (go (nat_le a x) refl)
    where
      go : (t : Bool) → nat_le a x ≡ t → nat_le a x ≡ false
      go true e = absurd (let l = leb-true a x e in omega (arith, l, h))
      go false e = e

  behind : (a n x : ℕ) → a + n ≤ x → within a n x ≡ false
  behind a n x h = ap (λ b. nat_le a x && b) (go (nat_lt x (a + n)) refl) ∙ none (nat_le a x)
    where
      go : (t : Bool) → nat_lt x (a + n) ≡ t → nat_lt x (a + n) ≡ false
      go true e = absurd (let l = ltb-true x (a + n) e in omega (arith, l, h))
      go false e = e

      none : (b : Bool) → (b && false) ≡ false
      none true = refl
      none false = refl

  before_all : (a n k : ℕ) → k ≤ a → waiting_in m (within a n) k ≡ 0
  before_all a n zero l = refl
  before_all a n (suc k) l = let r = before_all a n k (omega (arith, l)) in let b = ap (λ b. if b then waiting_at m k else 0) (before a n k (omega (arith, l))) in omega (arith, r, b)

  in_middle : (a n k : ℕ) → a ≤ k → k ≤ a + n → waiting_in m (within a n) k + waiting_below m a ≡ waiting_below m k
  in_middle a n zero l h = let r = before_all a n 0 (omega arith) in let e = ap (waiting_below m) (let e : a ≡ 0 = omega (arith, l) in e) in omega (arith, r, e)
  in_middle a n (suc k) l h = elim (cases_eq a (suc k)) [
    | inl e ↦ (let r = before_all a n (suc k) (omega (arith, e)) in let f = ap (waiting_below m) e in omega (arith, r, f))
    | inr f ↦ (
        let g : a ≡ suc k → ⊥ = f in
        let r = in_middle a n k (omega (arith, l, g)) (omega (arith, h)) in
        let b = ap (λ b. if b then waiting_at m k else 0) (span a n k (omega (arith, l, g)) (omega (arith, h))) in
        omega (arith, r, b))
  ]

  pub in_span : (a n k : ℕ) → a + n ≤ k → waiting_in m (within a n) k + waiting_below m a ≡ waiting_below m (a + n)
  in_span a n zero h = let e : 0 ≡ a + n = omega (arith, h) in let r = in_middle a n 0 (omega (arith, h)) (omega (arith, h)) in let f = ap (waiting_below m) e in omega (arith, r, f)
  in_span a n (suc k) h = elim (cases_eq (a + n) (suc k)) [
    | inl e ↦ (let r = in_middle a n (suc k) (omega (arith, e)) (omega (arith, e)) in let f = ap (waiting_below m) e in omega (arith, r, f))
    | inr f ↦ (
        let g : a + n ≡ suc k → ⊥ = f in
        let r = in_span a n k (omega (arith, h, g)) in
        let b = ap (λ b. if b then waiting_at m k else 0) (behind a n k (omega (arith, h, g))) in
        omega (arith, r, b))
  ]
