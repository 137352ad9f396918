-- Lists of places that are empty, and what that says of what they were gathered from.
use Rattle.std.proofs.Common.{◌≡◌, ℕ, zero, suc, ◌+◌, ◌<◌, ◌≤◌, Bool, true, false, not, ◌||◌, ◌&&◌, cond, List, [], ◌∷◌, ◌++◌, map, take, drop, length, Option, Some, None, slice_get, bytes_eq, refl, sym, ap, ◌∙◌, arith}
use Rattle.std.specs.List.{flat_map, list_all, enumerate_from}
use Rattle.std.specs.Option.{option_map_or}
use Rattle.kom_system.specs.declared.parts.Spot.{Spot}
use Rattle.kom_rules.specs.Names.{Name, at_if, is_among, number_in, unknown, first_place, earlier}
use Rattle.kom_rules.specs.Declaring.{over}

pub no_first : (places : List ℕ) → first_place places ≡ None → places ≡ []
no_first [] e = refl
no_first (a ∷ places) e = absurd (never a (first_place places) e) where
  never : (a : ℕ) (o : Option ℕ) → earlier (Some a) o ≡ None → ⊥
  never a None f = cc
  never a (Some b) f = cc

pub parts_empty : {X : Type 0} (xs ys : List X) → xs ++ ys ≡ [] → (xs ≡ []) × (ys ≡ [])
parts_empty [] ys e = (refl, e)
parts_empty (x ∷ xs) ys e = absurd cc

pub first_empty : {X : Type 0} (xs ys : List X) → xs ++ ys ≡ [] → xs ≡ []
first_empty xs ys e = (parts_empty xs ys e).0

pub second_empty : {X : Type 0} (xs ys : List X) → xs ++ ys ≡ [] → ys ≡ []
second_empty xs ys e = (parts_empty xs ys e).1

pub none_at : {X Y : Type 0} (f : X → List Y) (xs : List X) (k : ℕ) (x : X) → flat_map f xs ≡ [] → slice_get xs k ≡ Some x → f x ≡ []
none_at f [] k x e h = absurd cc
none_at f (y ∷ xs) zero x e h = let same : y ≡ x = cc in ap f (sym same) ∙ first_empty (f y) (flat_map f xs) e
none_at f (y ∷ xs) (suc k) x e h = none_at f xs k x (second_empty (f y) (flat_map f xs) e) h

pub none_numbered : {X Y : Type 0} (f : ℕ × X → List Y) (n : ℕ) (xs : List X) (k : ℕ) (x : X) → flat_map f (enumerate_from n xs) ≡ [] → slice_get xs k ≡ Some x → f (n + k, x) ≡ []
none_numbered f n [] k x e h = absurd cc
none_numbered f n (y ∷ xs) zero x e h =
    let same : y ≡ x = cc in let at : n + 0 ≡ n = omega arith in
    ap (λ m. f (m, x)) at ∙ ap (λ z. f (n, z)) (sym same) ∙ first_empty (f (n, y)) (flat_map f (enumerate_from (n + 1) xs)) e
none_numbered f n (y ∷ xs) (suc k) x e h =
    let at : n + suc k ≡ (n + 1) + k = omega arith in
    ap (λ m. f (m, x)) at ∙ none_numbered f (n + 1) xs k x (second_empty (f (n, y)) (flat_map f (enumerate_from (n + 1) xs)) e) h

pub not_at : (test : Bool) (a : ℕ) → at_if test a ≡ [] → test ≡ false
not_at true a e = absurd cc
not_at false a e = refl

pub not_true : (b : Bool) → not b ≡ false → b ≡ true
not_true true e = refl
not_true false e = absurd cc

pub neither : (a b : Bool) → a || b ≡ false → (a ≡ false) × (b ≡ false)
neither true b e = absurd cc
neither false b e = (refl, e)

pub both : (a b : Bool) → a ≡ true → b ≡ true → a && b ≡ true
both true true e f = refl
both true false e f = absurd cc
both false b e f = absurd cc

pub first : (a b : Bool) → a && b ≡ true → a ≡ true
first true b e = refl
first false b e = absurd cc

pub second : (a b : Bool) → a && b ≡ true → b ≡ true
second true b e = e
second false b e = absurd cc

-- ---- names

pub known : (names : List Name) (s : Spot) → unknown names s ≡ [] → is_among names s.name ≡ true
known names s e = not_true (is_among names s.name) (not_at (not (is_among names s.name)) s.at e)

pub number_known : (names : List Name) (n : Name) → is_among names n ≡ true → number_in names n < length names
number_known [] n e = absurd cc
number_known (x ∷ names) n e = by (bytes_eq n x) (number_known names n) e where
  by : (b : Bool) → (is_among names n ≡ true → number_in names n < length names) → b || is_among names n ≡ true → cond (not b) (1 + number_in names n) 0 < suc (length names)
  by true h f = omega arith
  by false h f = let less = h f in omega arith

pub known_number : (names : List Name) (s : Spot) → unknown names s ≡ [] → number_in names s.name < length names
known_number names s e = number_known names s.name (known names s e)

-- a list of which nothing is over the limit
pub not_over : (limit : ℕ) (spots : List Spot) → over limit spots ≡ [] → length spots ≤ limit
not_over zero [] e = omega arith
not_over zero (s ∷ spots) e = absurd cc
not_over (suc limit) [] e = omega arith
not_over (suc limit) (s ∷ spots) e = let shorter = not_over limit spots e in omega arith

-- ---- tests of all members

pub all_by_number : {X : Type 0} (f : X → Bool) (xs : List X) → ((k : ℕ) (x : X) → slice_get xs k ≡ Some x → f x ≡ true) → list_all f xs ≡ true
all_by_number f [] h = refl
all_by_number f (x ∷ xs) h = both (f x) (list_all f xs) (h 0 x refl) (all_by_number f xs (λ k y e. h (suc k) y e))

pub all_mapped : {X Y : Type 0} (f : Y → Bool) (g : X → Y) (xs : List X) → ((k : ℕ) (x : X) → slice_get xs k ≡ Some x → f (g x) ≡ true) → list_all f (map g xs) ≡ true
all_mapped f g [] h = refl
all_mapped f g (x ∷ xs) h = both (f (g x)) (list_all f (map g xs)) (h 0 x refl) (all_mapped f g xs (λ k y e. h (suc k) y e))

-- the member of a mapped list
pub mapped_at : {X Y : Type 0} (g : X → Y) (xs : List X) (k : ℕ) (x : X) → slice_get xs k ≡ Some x → slice_get (map g xs) k ≡ Some (g x)
mapped_at g [] k x e = absurd cc
mapped_at g (y ∷ xs) zero x e = let same : y ≡ x = cc in ap (λ z. Some (g z)) same
mapped_at g (y ∷ xs) (suc k) x e = mapped_at g xs k x e

pub member : {X : Type 0} (xs : List X) (k : ℕ) → k < length xs → (x : X) × (slice_get xs k ≡ Some x)
member [] k h = absurd (omega arith)
member (x ∷ xs) zero h = (x, refl)
member (x ∷ xs) (suc k) h = member xs k (omega arith)

pub says_at : {X : Type 0} (f : X → List ℕ) (o : Option X) (x : X) → option_map_or f o [] ≡ [] → o ≡ Some x → f x ≡ []
says_at f o x h e = sym (ap (λ q. option_map_or f q []) e) ∙ h

-- a list of which nothing is over the limit
pub none_over : {X : Type 0} (f : X → ℕ) (limit : ℕ) (xs : List X) → map f (take 1 (drop limit xs)) ≡ [] → length xs ≤ limit
none_over f zero [] e = omega arith
none_over f zero (x ∷ xs) e = absurd cc
none_over f (suc limit) [] e = omega arith
none_over f (suc limit) (x ∷ xs) e = let shorter = none_over f limit xs e in omega arith
