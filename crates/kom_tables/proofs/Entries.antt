-- Entries of lists that are made one after another.
use Rattle.std.proofs.Common.{◌≡◌, ℕ, zero, suc, ◌+◌, ◌<◌, List, [], ◌∷◌, ◌++◌, length, map, take, get_or, slice_get, slice_index_or, Option, refl, sym, ap, ◌∙◌, arith, append-nil}
use Rattle.std.specs.List.{flat_map, enumerate_from}
use Rattle.std.specs.Option.{option_map_or}
use Rattle.std.proofs.lemmas.List.{map_more, take_more, length-take-le}
use Rattle.std.proofs.lemmas.List.Concat.{flat_map-append}
use Rattle.kom_rules.specs.Names.{earlier, first_place}
use Rattle.kom_walks.proofs.Firsts.{first_append}

-- an entry of a list that is mapped
pub index_map : {A B : Type 0} (f : A → B) (d : A) (xs : List A) (k : ℕ) → slice_index_or (map f xs) k (f d) ≡ f (slice_index_or xs k d)
index_map f d [] k = refl
index_map f d (x ∷ xs) zero = refl
index_map f d (x ∷ xs) (suc k) = index_map f d xs k

pub index_map_or : {A : Type 0} (f : A → ℕ) (xs : List A) (k : ℕ) → slice_index_or (map f xs) k 0 ≡ option_map_or f (slice_get xs k) 0
index_map_or f [] k = refl
index_map_or f (x ∷ xs) zero = refl
index_map_or f (x ∷ xs) (suc k) = index_map_or f xs k

-- one entry more
pub map_push : {A B : Type 0} (f : A → B) (xs : List A) (i : ℕ) (x : A) (r : B) (table now : List B) → i < length xs → x ≡ get_or xs i x → r ≡ f x → table ≡ map f (take i xs) → now ≡ table ++ r ∷ [] → now ≡ map f (take (i + 1) xs)
map_push f xs i x r table now lt is e old new = new ∙ rw (e, old) (ap (λ y. map f (take i xs) ++ f y ∷ []) is ∙ sym (map_more f xs i x lt))

enumerate_append : {A : Type 0} (n : ℕ) (xs : List A) (y : A) → enumerate_from n (xs ++ y ∷ []) ≡ enumerate_from n xs ++ (n + length xs, y) ∷ []
enumerate_append n [] y = let e : n + 0 ≡ n = omega arith in rw e refl
enumerate_append n (x ∷ xs) y =
    let e : (n + 1) + length xs ≡ n + length (x ∷ xs) = omega arith in
    ap (λ ps. (n, x) ∷ ps) (enumerate_append (n + 1) xs y ∙ ap (λ k. enumerate_from (n + 1) xs ++ (k, y) ∷ []) e)

-- the first place of numbered entries, with one entry more
pub numbered_push : {A : Type 0} (n : ℕ) (f : ℕ × A → List ℕ) (xs : List A) (i : ℕ) (x : A) (first now : Option ℕ) → i < length xs → x ≡ get_or xs i x
    → first ≡ first_place (flat_map f (enumerate_from n (take i xs))) → now ≡ first_place (f (n + i, x)) → earlier first now ≡ first_place (flat_map f (enumerate_from n (take (i + 1) xs)))
numbered_push n f xs i x first now lt is old own =
    let long : n + length (take i xs) ≡ n + i = omega (arith, length-take-le i xs) in
    let all : enumerate_from n (take (i + 1) xs) ≡ enumerate_from n (take i xs) ++ (n + i, x) ∷ [] =
    ap (enumerate_from n) (take_more xs i x lt ∙ ap (λ y. take i xs ++ y ∷ []) (sym is)) ∙ enumerate_append n (take i xs) x ∙ ap (λ k. enumerate_from n (take i xs) ++ (k, x) ∷ []) long in
    let places : flat_map f (enumerate_from n (take (i + 1) xs)) ≡ flat_map f (enumerate_from n (take i xs)) ++ f (n + i, x) =
    ap (flat_map f) all ∙ flat_map-append f (enumerate_from n (take i xs)) ((n + i, x) ∷ []) ∙ ap (λ ys. flat_map f (enumerate_from n (take i xs)) ++ ys) (append-nil (f (n + i, x))) in
    rw (places, old, own) (sym (first_append (flat_map f (enumerate_from n (take i xs))) (f (n + i, x))))
