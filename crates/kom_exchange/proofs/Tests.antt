-- What `between`, `below` and `parts` come to.
use Rattle.std.proofs.Common.{◌≡◌, ◌⊎◌, inl, inr, ℕ, ◌+◌, ◌<◌, ◌≤◌, ◌≢◌, ◌==◌, Bool, true, false, leb, ltb, List, [], ◌∷◌, length, refl, ap, arith, eq-eqb, ne_eqb}
use mathlib.Core.Logic.{dite}
use native.Mathlib.Decide.{ℕ_discrete}
use Rattle.std.proofs.lemmas.Bool.{leb-true, ltb-true}
use Rattle.std.proofs.lemmas.Bool.Decides.{nat_tests}
use Rattle.kom_exchange.specs.declared.view.Own.{Own}
use Rattle.kom_exchange.specs.Rule.{Every, total, one_if, between, below, parts_if}

pub one_at_most : (b : Bool) → one_if b ≤ 1
one_at_most true = omega arith
one_at_most false = omega arith

between_cases : (a b t : ℕ) (x y : Bool) → leb a t ≡ x → ltb t b ≡ y → ((a ≤ t) × (t < b) × (between a b t ≡ 1)) ⊎ (((t < a) ⊎ (b ≤ t)) × (between a b t ≡ 0))
between_cases a b t true true p q = inl (leb-true a t p, ltb-true t b q, rw (p, q) refl)
between_cases a b t true false p q = inr (inr (let h : b ≤ t = grind (arith, nat_tests) in h), rw (p, q) refl)
between_cases a b t false y p q = inr (inl (let h : t < a = grind (arith, nat_tests) in h), rw p refl)

pub between_is : (a b t : ℕ) → ((a ≤ t) × (t < b) × (between a b t ≡ 1)) ⊎ (((t < a) ⊎ (b ≤ t)) × (between a b t ≡ 0))
between_is a b t = between_cases a b t (leb a t) (ltb t b) refl refl

one_if_is : (a b : ℕ) → ((a ≡ b) × (one_if (a == b) ≡ 1)) ⊎ ((a ≢ b) × (one_if (a == b) ≡ 0))
one_if_is a b = dite (ℕ_discrete a b) (λ e. inl (e, rw (eq-eqb a b e) refl)) (λ n. inr (n, rw (ne_eqb a b n) refl))

-- one ticket more was drawn
pub between_more : (a b t : ℕ) → a ≤ b → one_if (b == t) + between a b t ≡ between a (b + 1) t
between_more a b t le = let p = between_is a b t in let q = between_is a (b + 1) t in let r = one_if_is b t in omega arith

-- the first of them passed
pub between_less : (a b t : ℕ) → a < b → between a b t ≡ one_if (a == t) + between (a + 1) b t
between_less a b t le = let p = between_is a b t in let q = between_is (a + 1) b t in let r = one_if_is a t in omega arith

pub in_between : (a b t : ℕ) → 1 ≤ between a b t → (a ≤ t) × (t < b)
in_between a b t h = let p = between_is a b t in (omega arith, omega arith)

pub between_small : (a b t : ℕ) → between a b t ≤ 1
between_small a b t = let p = between_is a b t in omega arith

pub below_small : (x n : ℕ) → below x n ≤ 1
below_small x n = one_at_most (ltb x n)

below_cases : (x n : ℕ) (b : Bool) → ltb x n ≡ b → 1 ≤ one_if b → x < n
below_cases x n true p h = ltb-true x n p
below_cases x n false p h = absurd (omega arith)

pub in_below : (x n : ℕ) → 1 ≤ below x n → x < n
in_below x n h = below_cases x n (ltb x n) refl h

pub one_same : (a : ℕ) → one_if (a == a) ≡ 1
one_same a = rw (eq-eqb a a refl) refl

-- ---- parts

pub part_total : (f : Own → ℕ) (b : Bool) (o p : Own) (os : List Own) → f p ≡ f o → total f (parts_if b p os) ≡ total f (parts_if b o os)
part_total f true o p os e = refl
part_total f false o p os e = ap (λ (n : ℕ). n + total f os) e

pub part_length : (b : Bool) (o p : Own) (os : List Own) → length (parts_if b p os) ≡ length (parts_if b o os)
part_length true o p os = refl
part_length false o p os = refl

pub part_first : (f : Own → ℕ) (b : Bool) (o : Own) (os : List Own) → b ≡ false → total f (parts_if b o os) ≡ f o + total f os
part_first f true o os e = absurd cc
part_first f false o os e = refl

pub part_every : (P : Own → Type 0) (b : Bool) (o : Own) (os : List Own) → b ≡ false → Every P (parts_if b o os) → P o × Every P os
part_every P true o os e h = absurd cc
part_every P false o os e h = h

pub every_part : (P : Own → Type 0) (b : Bool) (o : Own) (os : List Own) → P o → Every P os → Every P (parts_if b o os)
every_part P true o os h hs = tt
every_part P false o os h hs = (h, hs)

-- with the number x nowhere, each number is another
no_number : (x : ℕ) (o : Own) → one_if (o.number == x) ≡ 0 → o.number ≢ x
no_number x o h e = let one : one_if (o.number == x) ≡ 1 = rw (eq-eqb o.number x e) refl in absurd (omega arith)

pub every_other : (x : ℕ) (os : List Own) → total (λ (o : Own). one_if (o.number == x)) os ≡ 0 → Every (λ (o : Own). o.number ≢ x) os
every_other x [] h = tt
every_other x (o ∷ os) h = (no_number x o (omega arith), every_other x os (omega arith))

pub every_both : {A : Type 0} (P Q R : A → Type 0) (l : List A) → ((a : A) → P a → Q a → R a) → Every P l → Every Q l → Every R l
every_both P Q R [] h e d = tt
every_both P Q R (x ∷ xs) h e d = (h x e.0 d.0, every_both P Q R xs h e.1 d.1)
