-- Lists: what appending does to numbering, to look-ups and to `drop`.
use Rattle.std.proofs.Common.{◌≡◌, ℕ, zero, suc, ◌+◌, ◌-◌, ◌<◌, Bool, true, false, cond, ◌&&◌, refl, sym, ap, ◌∙◌, subst, List, [], ◌∷◌, ◌++◌, length, drop, filter, Option, Some, None, ◌⊎◌, inl, inr, arith}
use Rattle.std.proofs.lemmas.List.{length-append}
use Rattle.std.proofs.lemmas.Bool.{ltb-true, ltb-false}
use Rattle.std.specs.Prelude.{map, take, slice_get, nat_lt, is_some}
use Rattle.std.specs.List.{filter_map, cons_option, enumerate_from, flat_map}
use Rattle.kom_base.specs.Lists.{first}
use Rattle.kom_laws.proofs.Members.{IsIn, here, there}
use Rattle.kom_laws.proofs.Rising.{in_append}

pub enumerate_append : {X : Type 0} (n : ℕ) (xs ys : List X) → enumerate_from n (xs ++ ys) ≡ enumerate_from n xs ++ enumerate_from (n + length xs) ys
enumerate_append n [] ys = ap (λ m. enumerate_from m ys) (omega arith)
enumerate_append n (x ∷ xs) ys =
    ap (λ r. (n, x) ∷ r) (enumerate_append (n + 1) xs ys)
    ∙ ap (λ m. (n, x) ∷ enumerate_from (n + 1) xs ++ enumerate_from m ys) (let e : (n + 1) + length xs ≡ n + suc (length xs) = omega arith in e)

pub get_left : {X : Type 0} (xs ys : List X) (i : ℕ) → i < length xs → slice_get (xs ++ ys) i ≡ slice_get xs i
get_left [] ys i h = absurd (omega (arith, h))
get_left (x ∷ xs) ys zero h = refl
get_left (x ∷ xs) ys (suc i) h = get_left xs ys i (omega (arith, h))

pub get_right : {X : Type 0} (xs ys : List X) (i : ℕ) → slice_get (xs ++ ys) (length xs + i) ≡ slice_get ys i
get_right [] ys i = ap (slice_get ys) (omega arith)
get_right (x ∷ xs) ys i = ap (slice_get (x ∷ xs ++ ys)) (let e : suc (length xs) + i ≡ suc (length xs + i) = omega arith in e) ∙ get_right xs ys i

-- a list from which something is made in the middle
pub drop_one : {X : Type 0} (n : ℕ) (xs : List X) (x : X) → first (drop n xs) ≡ Some x → drop n xs ≡ x ∷ drop (n + 1) xs
drop_one zero [] x e = absurd cc
drop_one (suc n) [] x e = absurd cc
drop_one zero (y ∷ xs) x e = cc
drop_one (suc n) (y ∷ xs) x e = drop_one n xs x e ∙ ap (λ m. x ∷ drop m (y ∷ xs)) (let f : suc (n + 1) ≡ suc n + 1 = omega arith in f)

pub drop_some : {X : Type 0} (n : ℕ) (xs : List X) (x : X) → first (drop n xs) ≡ Some x → n < length xs
drop_some zero [] x e = absurd cc
drop_some (suc n) [] x e = absurd cc
drop_some zero (y ∷ xs) x e = omega arith
drop_some (suc n) (y ∷ xs) x e = let r = drop_some n xs x e in omega (arith, r)

-- filter_map gives something exactly where it is made from a member
pub makes : {X Y : Type 0} (f : X → Option Y) (xs : List X) (x : X) (y : Y) → IsIn x xs → f x ≡ Some y → IsIn y (filter_map f xs)
makes f [] x y h e = elim h [ ]
makes f (x ∷ xs) x' y here e = subst (λ o. IsIn y (cons_option o (filter_map f xs))) (sym e) here
makes f (z ∷ xs) x y (there h) e = more (f z) (makes f xs x y h e)
  where
    more : (o : Option _) → IsIn y (filter_map f xs) → IsIn y (cons_option o (filter_map f xs))
    more None k = k
    more (Some w) k = there k

pub first_some : {X : Type 0} (xs : List X) (x : X) → IsIn x xs → is_some (first xs) ≡ true
first_some [] x h = elim h [ ]
first_some (y ∷ xs) x h = refl

pub first_is : {X : Type 0} (xs : List X) → is_some (first xs) ≡ true → (x : X) × IsIn x xs
first_is [] e = absurd cc
first_is (x ∷ xs) e = (x, here)

-- a member of a numbered list is what stands there
pub numbered : {X : Type 0} (n : ℕ) (xs : List X) (q : ℕ × X) → IsIn q (enumerate_from n xs) → (i : ℕ) × (q.0 ≡ n + i) × (slice_get xs i ≡ Some q.1)
numbered n [] q h = elim h [ ]
numbered n (x ∷ xs) q here = (0, omega arith, refl)
numbered n (x ∷ xs) q (there h) = let r = numbered (n + 1) xs q h in (suc r.0, omega (arith, r.1), r.2)

pub in_numbered : {X : Type 0} (n : ℕ) (xs : List X) (i : ℕ) (x : X) → slice_get xs i ≡ Some x → IsIn (n + i, x) (enumerate_from n xs)
in_numbered n [] i x e = absurd cc
in_numbered n (y ∷ xs) zero x e = subst (λ q. IsIn q (enumerate_from n (y ∷ xs))) (let f : (n, y) ≡ (n + 0, x) = let a : n ≡ n + 0 = omega arith in let b : y ≡ x = cc in cc in f) here
in_numbered n (y ∷ xs) (suc i) x e = there (subst (λ m. IsIn (m, x) (enumerate_from (n + 1) xs)) (let f : (n + 1) + i ≡ n + suc i = omega arith in f) (in_numbered (n + 1) xs i x e))

pub got_in : {X : Type 0} (xs : List X) (i : ℕ) (x : X) → slice_get xs i ≡ Some x → IsIn x xs
got_in [] i x e = absurd cc
got_in (y ∷ xs) zero x e = subst (λ z. IsIn z (y ∷ xs)) (let f : y ≡ x = cc in f) here
got_in (y ∷ xs) (suc i) x e = there (got_in xs i x e)

pub in_cons : {X : Type 0} (x y : X) (ys : List X) → IsIn x (y ∷ ys) → (x ≡ y) ⊎ IsIn x ys
in_cons x x' ys here = inl refl
in_cons x y ys (there h) = inr h

pub get_numbered : {X : Type 0} (n : ℕ) (xs : List X) (i : ℕ) (x : X) → slice_get xs i ≡ Some x → slice_get (enumerate_from n xs) i ≡ Some (n + i, x)
get_numbered n [] i x e = absurd cc
get_numbered n (y ∷ xs) zero x e = let a : n ≡ n + 0 = omega arith in let b : y ≡ x = cc in let f : (n, y) ≡ (n + 0, x) = cc in ap Some f
get_numbered n (y ∷ xs) (suc i) x e = get_numbered (n + 1) xs i x e ∙ ap (λ m. Some (m, x)) (let f : (n + 1) + i ≡ n + suc i = omega arith in f)

pub flat_get : {X Y : Type 0} (f : X → List Y) (xs : List X) (c : ℕ) (x : X) (k : ℕ) → slice_get xs c ≡ Some x → k < length (f x) → slice_get (flat_map f xs) (length (flat_map f (take c xs)) + k) ≡ slice_get (f x) k
flat_get f [] c x k e h = absurd cc
flat_get f (y ∷ xs) zero x k e h =
    let s : y ≡ x = cc in
    ap (slice_get (f y ++ flat_map f xs)) (let g : 0 + k ≡ k = omega arith in g)
    ∙ get_left (f y) (flat_map f xs) k (subst (λ z. k < length (f z)) (sym s) h)
    ∙ ap (λ z. slice_get (f z) k) s
flat_get f (y ∷ xs) (suc c) x k e h =
    ap (slice_get (f y ++ flat_map f xs)) (let g : length (f y ++ flat_map f (take c xs)) + k ≡ length (f y) + (length (flat_map f (take c xs)) + k) = omega (arith, length-append (f y) (flat_map f (take c xs))) in g)
    ∙ get_right (f y) (flat_map f xs) (length (flat_map f (take c xs)) + k)
    ∙ flat_get f xs c x k e h

pub got_at : {X : Type 0} (xs : List X) (i : ℕ) → i < length xs → (x : X) × (slice_get xs i ≡ Some x)
got_at [] i h = absurd (omega (arith, h))
got_at (x ∷ xs) zero h = (x, refl)
got_at (x ∷ xs) (suc i) h = got_at xs i (omega (arith, h))

pub in_map : {X Y : Type 0} (f : X → Y) (xs : List X) (x : X) → IsIn x xs → IsIn (f x) (map f xs)
in_map f [] x h = elim h [ ]
in_map f (x ∷ xs) x' here = here
in_map f (y ∷ xs) x (there h) = there (in_map f xs x h)

in_flat_at : {X Y : Type 0} (f : X → List Y) (x : X) (xs : List X) (y : Y) → IsIn y (f x) ⊎ IsIn y (flat_map f xs) → (IsIn y (flat_map f xs) → (z : X) × IsIn z xs × IsIn y (f z)) → (z : X) × IsIn z (x ∷ xs) × IsIn y (f z)
in_flat_at f x xs y (inl a) rest = (x, here, a)
in_flat_at f x xs y (inr b) rest = let r = rest b in (r.0, there r.1, r.2)

pub in_flat : {X Y : Type 0} (f : X → List Y) (xs : List X) (y : Y) → IsIn y (flat_map f xs) → (x : X) × IsIn x xs × IsIn y (f x)
in_flat f [] y h = elim h [ ]
in_flat f (x ∷ xs) y h = in_flat_at f x xs y (in_append y (f x) (flat_map f xs) h) (in_flat f xs y)

pub nothing_made : {X Y : Type 0} (f : X → Option Y) (xs : List X) → ((x : X) → IsIn x xs → f x ≡ None) → filter_map f xs ≡ []
nothing_made f [] h = refl
nothing_made f (x ∷ xs) h = ap (λ o. cons_option o (filter_map f xs)) (h x here) ∙ nothing_made f xs (λ y m. h y (there m))

-- where an element of a joined list came from
abbrev pub IsPart : {X Y : Type 0} → (X → List Y) → List X → ℕ → Y → Type 0
IsPart {X} {Y} f xs m y = (j : ℕ) × (q : X) × (k : ℕ) × (slice_get xs j ≡ Some q) × (slice_get (f q) k ≡ Some y) × (m ≡ length (flat_map f (take j xs)) + k)

part_later : {X Y : Type 0} (f : X → List Y) (x : X) (xs : List X) (m : ℕ) (y : Y) → IsPart f xs m y → IsPart f (x ∷ xs) (length (f x) + m) y
part_later f x xs m y r = (suc r.0, r.1, r.2, r.3, r.4, omega (arith, r.5, length-append (f x) (flat_map f (take r.0 xs))))

split_at : {X Y : Type 0} (f : X → List Y) (x : X) (xs : List X) (m : ℕ) (y : Y) (t : Bool) → nat_lt m (length (f x)) ≡ t → ((n : ℕ) → slice_get (flat_map f xs) n ≡ Some y → IsPart f xs n y)
    → slice_get (f x ++ flat_map f xs) m ≡ Some y → IsPart f (x ∷ xs) m y
split_at f x xs m y true q rest e = (0, x, m, refl, sym (get_left (f x) (flat_map f xs) m (ltb-true m (length (f x)) q)) ∙ e, omega arith)
split_at f x xs m y false q rest e =
    let h = ltb-false m (length (f x)) q in
    let s : m ≡ length (f x) + (m - length (f x)) = omega (arith, h) in
    let r = rest (m - length (f x)) (sym (get_right (f x) (flat_map f xs) (m - length (f x))) ∙ ap (slice_get (f x ++ flat_map f xs)) (sym s) ∙ e) in
    subst (λ n. IsPart f (x ∷ xs) n y) (sym s) (part_later f x xs (m - length (f x)) y r)

pub flat_split : {X Y : Type 0} (f : X → List Y) (xs : List X) (m : ℕ) (y : Y) → slice_get (flat_map f xs) m ≡ Some y → IsPart f xs m y
flat_split f [] m y e = absurd cc
flat_split f (x ∷ xs) m y e = split_at f x xs m y (nat_lt m (length (f x))) refl (λ n. flat_split f xs n y) e

pub number_at : {X : Type 0} (n : ℕ) (xs : List X) (j : ℕ) (q : ℕ × X) → slice_get (enumerate_from n xs) j ≡ Some q → q.0 ≡ n + j
number_at n [] j q e = absurd cc
number_at n (x ∷ xs) zero q e = let s : (n, x) ≡ q = cc in let t : n ≡ q.0 = ap (λ p. p.0) s in omega (arith, t)
number_at n (x ∷ xs) (suc j) q e = let r = number_at (n + 1) xs j q e in omega (arith, r)

twice_at : {X : Type 0} (f g : X → Bool) (x : X) (xs : List X) (t : Bool) → g x ≡ t → filter f (filter g xs) ≡ filter (λ y. g y && f y) xs
    → filter f (cond t (x ∷ filter g xs) (filter g xs)) ≡ cond (t && f x) (x ∷ filter (λ y. g y && f y) xs) (filter (λ y. g y && f y) xs)
twice_at f g x xs true a e = ap (λ r. cond (f x) (x ∷ r) r) e
twice_at f g x xs false a e = e

-- two filters are one
pub filter_twice : {X : Type 0} (f g : X → Bool) (xs : List X) → filter f (filter g xs) ≡ filter (λ x. g x && f x) xs
filter_twice f g [] = refl
filter_twice f g (x ∷ xs) = twice_at f g x xs (g x) refl (filter_twice f g xs)
