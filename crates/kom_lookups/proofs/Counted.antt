-- Numbers of names in lists.
use Rattle.std.proofs.Common.{◌≡◌, ℕ, suc, ◌+◌, ◌<◌, ◌≤◌, Bool, true, false, not, ◌||◌, cond, List, [], ◌∷◌, ◌++◌, map, take, drop, length, get_or, slice_get, Option, Some, None, is_some, if◌then◌else◌, refl, sym, ap, ◌∙◌, arith, bytes_eq, add-one}
use Rattle.std.specs.Option.{option_map, option_and_then}
use Rattle.std.proofs.lemmas.List.{take_more, drop_more, drop_all, map-append, length-map, length-take-le}
use Rattle.kom_base.specs.Lists.{either}
use Rattle.kom_system.specs.declared.parts.Spot.{Spot}
use Rattle.kom_rules.specs.Names.{Name, names_of, is_among, number_in}
use Rattle.kom_lookups.specs.Numbered.{number_from}

number_append : (n : ℕ) (xs : List Name) (y : Name) (q : Name) → number_from n (xs ++ y ∷ []) q ≡ either (number_from n xs q) (if bytes_eq q y then Some (n + length xs) else None)
number_append n [] y q = let e : n + 0 ≡ n = omega arith in rw e refl
number_append n (x ∷ xs) y q = by (bytes_eq q x) (number_append (n + 1) xs y q) where
  by : (b : Bool) → number_from (n + 1) (xs ++ y ∷ []) q ≡ either (number_from (n + 1) xs q) (if bytes_eq q y then Some ((n + 1) + length xs) else None)
      → (if b then Some n else number_from (n + 1) (xs ++ y ∷ []) q) ≡ either (if b then Some n else number_from (n + 1) xs q) (if bytes_eq q y then Some (n + length (x ∷ xs)) else None)
  by true rest = refl
  by false rest = let e : (n + 1) + length xs ≡ n + length (x ∷ xs) = omega arith in rest ∙ ap (λ k. either (number_from (n + 1) xs q) (if bytes_eq q y then Some k else None)) e

-- a name is among those that have a number
pub number_some : (n : ℕ) (names : List Name) (q : Name) → is_some (number_from n names q) ≡ is_among names q
number_some n [] q = refl
number_some n (x ∷ names) q = by (bytes_eq q x) (number_some (n + 1) names q) where
  by : (b : Bool) → is_some (number_from (n + 1) names q) ≡ is_among names q → is_some (if b then Some n else number_from (n + 1) names q) ≡ b || is_among names q
  by true rest = refl
  by false rest = rest

-- the number of a name in a list that goes on by one
pub number_more : {X : Type 0} (f : X → Spot) (xs : List X) (i : ℕ) (x : X) (q : Name) → i < length xs → x ≡ get_or xs i x
    → number_from 0 (names_of (map f (take (i + 1) xs))) q ≡ either (number_from 0 (names_of (map f (take i xs))) q) (if bytes_eq q (f x).name then Some i else None)
number_more f xs i x q h e =
    let names : names_of (map f (take (i + 1) xs)) ≡ names_of (map f (take i xs)) ++ (f x).name ∷ [] =
    ap (λ ys. names_of (map f ys)) (take_more xs i x h ∙ ap (λ y. take i xs ++ y ∷ []) (sym e)) ∙ ap names_of (map-append f (take i xs) (x ∷ [])) ∙ map-append (λ s. s.name) (map f (take i xs)) (f x ∷ []) in
    let long : 0 + length (names_of (map f (take i xs))) ≡ i = omega (arith, length-map (map f (take i xs)) (λ s. s.name), length-map (take i xs) f, length-take-le i xs) in
    ap (λ ns. number_from 0 ns q) names ∙ number_append 0 (names_of (map f (take i xs))) (f x).name q
    ∙ ap (λ k. either (number_from 0 (names_of (map f (take i xs))) q) (if bytes_eq q (f x).name then Some k else None)) long

number_shift : (n : ℕ) (names : List Name) (q : Name) → number_from (n + 1) names q ≡ option_map suc (number_from n names q)
number_shift n [] q = refl
number_shift n (x ∷ names) q = by (bytes_eq q x) (number_shift (n + 1) names q) where
  by : (b : Bool) → number_from ((n + 1) + 1) names q ≡ option_map suc (number_from (n + 1) names q) → (if b then Some (n + 1) else number_from ((n + 1) + 1) names q) ≡ option_map suc (if b then Some n else number_from (n + 1) names q)
  by true rest = ap Some (add-one n)
  by false rest = rest

behind : {X : Type 0} (x : X) (xs : List X) (o : Option ℕ) → option_and_then (slice_get (x ∷ xs)) (option_map suc o) ≡ option_and_then (slice_get xs) o
behind x xs None = refl
behind x xs (Some k) = refl

-- the part with the number of a name
pub part_named : {X : Type 0} (f : X → Spot) (xs : List X) (q : Name) → slice_get xs (number_in (names_of (map f xs)) q) ≡ option_and_then (slice_get xs) (number_from 0 (names_of (map f xs)) q)
part_named f [] q = refl
part_named f (x ∷ xs) q = by (bytes_eq q (f x).name) (part_named f xs q) where
  by : (b : Bool) → slice_get xs (number_in (names_of (map f xs)) q) ≡ option_and_then (slice_get xs) (number_from 0 (names_of (map f xs)) q)
      → slice_get (x ∷ xs) (cond (not b) (1 + number_in (names_of (map f xs)) q) 0) ≡ option_and_then (slice_get (x ∷ xs)) (if b then Some 0 else number_from (0 + 1) (names_of (map f xs)) q)
  by true rest = refl
  by false rest =
      let one : 1 + number_in (names_of (map f xs)) q ≡ suc (number_in (names_of (map f xs)) q) = omega arith in
      ap (slice_get (x ∷ xs)) one ∙ rest ∙ sym (behind x xs (number_from 0 (names_of (map f xs)) q)) ∙ ap (option_and_then (slice_get (x ∷ xs))) (sym (number_shift 0 (names_of (map f xs)) q))

-- ---- a walk through the parts

abbrev pub found : {X : Type 0} → (X → Spot) → List X → Name → Option X
found f xs q = slice_get xs (number_in (names_of (map f xs)) q)

found_next : {X : Type 0} (f : X → Spot) (x : X) (xs : List X) (q : Name) → bytes_eq q (f x).name ≡ false → found f (x ∷ xs) q ≡ found f xs q
found_next f x xs q h =
    let one : 1 + number_in (names_of (map f xs)) q ≡ suc (number_in (names_of (map f xs)) q) = omega arith in
    ap (λ b. slice_get (x ∷ xs) (cond (not b) (1 + number_in (names_of (map f xs)) q) 0)) h ∙ ap (slice_get (x ∷ xs)) one

found_here : {X : Type 0} (f : X → Spot) (x : X) (xs : List X) (q : Name) → bytes_eq q (f x).name ≡ true → found f (x ∷ xs) q ≡ Some x
found_here f x xs q h = ap (λ b. slice_get (x ∷ xs) (cond (not b) (1 + number_in (names_of (map f xs)) q) 0)) h

dropped : {X : Type 0} (xs : List X) (i : ℕ) (x : X) → i < length xs → x ≡ get_or xs i x → drop i xs ≡ x ∷ drop (i + 1) xs
dropped xs i x h e = drop_more xs i x h ∙ ap (λ y. y ∷ drop (i + 1) xs) (sym e)

pub walk_next : {X : Type 0} (f : X → Spot) (xs : List X) (i : ℕ) (x : X) (q : Name) (whole : Option X) → i < length xs → x ≡ get_or xs i x → bytes_eq q (f x).name ≡ false → whole ≡ found f (drop i xs) q → whole ≡ found f (drop (i + 1) xs) q
walk_next f xs i x q whole h e differs w = w ∙ ap (λ ys. found f ys q) (dropped xs i x h e) ∙ found_next f x (drop (i + 1) xs) q differs

pub walk_here : {X : Type 0} (f : X → Spot) (xs : List X) (i : ℕ) (x : X) (q : Name) (whole : Option X) → i < length xs → x ≡ get_or xs i x → bytes_eq q (f x).name ≡ true → whole ≡ found f (drop i xs) q → Some x ≡ whole
walk_here f xs i x q whole h e same w = sym (w ∙ ap (λ ys. found f ys q) (dropped xs i x h e) ∙ found_here f x (drop (i + 1) xs) q same)

pub walk_end : {X : Type 0} (f : X → Spot) (xs : List X) (i : ℕ) (q : Name) (whole : Option X) → length xs ≤ i → whole ≡ found f (drop i xs) q → None ≡ whole
walk_end f xs i q whole h w = sym (w ∙ ap (λ ys. found f ys q) (drop_all i xs h))
