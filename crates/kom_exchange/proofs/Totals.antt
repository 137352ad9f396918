-- Sums over a list in which one place changes, and facts of each.
use Rattle.std.proofs.Common.{◌≡◌, ℕ, zero, suc, ◌+◌, ◌<◌, ◌≤◌, ◌≢◌, List, [], ◌∷◌, ◌++◌, length, set, sym, refl, ap, arith, zero-le}
use mathlib.Core.Option.{some, some-injective, some-ne-none}
use lib.ListN.{get_elem?}
use Rattle.kom_exchange.specs.Rule.{Every, total}

module _ {A : Type 0} where
  pub total_set : (f : A → ℕ) (l : List A) (i : ℕ) (a b : A) → get_elem? l i ≡ some a → total f (set l i b) + f a ≡ total f l + f b
  total_set f [] i a b e = absurd (some-ne-none a (sym e))
  total_set f (x ∷ xs) zero a b e = let same : f x ≡ f a = ap f (some-injective x a e) in omega arith
  total_set f (x ∷ xs) (suc i) a b e = let more = total_set f xs i a b e in omega arith

  pub total_same : (f : A → ℕ) (l : List A) (i : ℕ) (a b : A) → get_elem? l i ≡ some a → f b ≡ f a → total f (set l i b) ≡ total f l
  total_same f l i a b e same = let h = total_set f l i a b e in omega arith

  pub total_append : (f : A → ℕ) (l m : List A) → total f (l ++ m) ≡ total f l + total f m
  total_append f [] m = omega arith
  total_append f (x ∷ xs) m = let more = total_append f xs m in omega arith

  pub total_at : (f : A → ℕ) (l : List A) (i : ℕ) (a : A) → get_elem? l i ≡ some a → f a ≤ total f l
  total_at f [] i a e = absurd (some-ne-none a (sym e))
  total_at f (x ∷ xs) zero a e = let same : f x ≡ f a = ap f (some-injective x a e) in omega arith
  total_at f (x ∷ xs) (suc i) a e = let more = total_at f xs i a e in omega arith

  pub total_two : (f : A → ℕ) (l : List A) (i j : ℕ) (a b : A) → i ≢ j → get_elem? l i ≡ some a → get_elem? l j ≡ some b → f a + f b ≤ total f l
  total_two f [] i j a b n e d = absurd (some-ne-none a (sym e))
  total_two f (x ∷ xs) zero zero a b n e d = absurd (n refl)
  total_two f (x ∷ xs) zero (suc j) a b n e d = let same : f x ≡ f a = ap f (some-injective x a e) in let more = total_at f xs j b d in omega arith
  total_two f (x ∷ xs) (suc i) zero a b n e d = let same : f x ≡ f b = ap f (some-injective x b d) in let more = total_at f xs i a e in omega arith
  total_two f (x ∷ xs) (suc i) (suc j) a b n e d = let more = total_two f xs i j a b (λ q. n (ap suc q)) e d in omega arith

  pub total_le : (f g : A → ℕ) (l : List A) → ((i : ℕ) (a : A) → get_elem? l i ≡ some a → f a ≤ g a) → total f l ≤ total g l
  total_le f g [] h = zero-le
  total_le f g (x ∷ xs) h = let here : f x ≤ g x = h zero x refl in let more = total_le f g xs (λ i. h (suc i)) in omega arith

  pub every_map : (P Q : A → Type 0) (l : List A) → ((a : A) → P a → Q a) → Every P l → Every Q l
  every_map P Q [] h e = tt
  every_map P Q (x ∷ xs) h e = (h x e.0, every_map P Q xs h e.1)

  pub every_append : (P : A → Type 0) (l m : List A) → Every P l → Every P m → Every P (l ++ m)
  every_append P [] m e d = d
  every_append P (x ∷ xs) m e d = (e.0, every_append P xs m e.1 d)

  pub at_length : (l : List A) (i : ℕ) (a : A) → get_elem? l i ≡ some a → i < length l
  at_length [] i a e = absurd (some-ne-none a (sym e))
  at_length (x ∷ xs) zero a e = omega arith
  at_length (x ∷ xs) (suc i) a e = let more = at_length xs i a e in omega arith
