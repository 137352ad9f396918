-- The first of the places of lists put together.
use Rattle.std.proofs.Common.{◌≡◌, ℕ, ◌+◌, ◌<◌, min, List, [], ◌∷◌, ◌++◌, length, take, get_or, Option, Some, None, refl, sym, ap, ◌∙◌, arith}
use Rattle.std.specs.List.{flat_map}
use Rattle.std.proofs.lemmas.List.{take_more, append-nil}
use Rattle.std.proofs.lemmas.List.Concat.{flat_map-append}
use Rattle.kom_rules.specs.Names.{earlier, first_place}

pub earlier_none : (o : Option ℕ) → earlier o None ≡ o
earlier_none None = refl
earlier_none (Some a) = refl

pub earlier_grouped : (a b c : Option ℕ) → earlier (earlier a b) c ≡ earlier a (earlier b c)
earlier_grouped None b c = refl
earlier_grouped (Some x) None c = refl
earlier_grouped (Some x) (Some y) None = refl
earlier_grouped (Some x) (Some y) (Some z) = let e : min (min x y) z ≡ min x (min y z) = omega arith in ap Some e

-- the first of two lists one behind the other is the lesser of the firsts of both
pub first_append : (xs ys : List ℕ) → first_place (xs ++ ys) ≡ earlier (first_place xs) (first_place ys)
first_append [] ys = refl
first_append (x ∷ xs) ys = ap (earlier (Some x)) (first_append xs ys) ∙ sym (earlier_grouped (Some x) (first_place xs) (first_place ys))

-- what the items up to one give, and what it gives
pub flat_taken : {X A : Type 0} (f : X → List A) (xs : List X) (i : ℕ) (x : X) → i < length xs → x ≡ get_or xs i x → flat_map f (take (i + 1) xs) ≡ flat_map f (take i xs) ++ f x
flat_taken f xs i x h e =
    ap (flat_map f) (take_more xs i x h) ∙ flat_map-append f (take i xs) (get_or xs i x ∷ [])
    ∙ ap (λ y. flat_map f (take i xs) ++ (f y ++ [])) (sym e) ∙ ap (λ ys. flat_map f (take i xs) ++ ys) (append-nil (f x))

-- one item more
pub first_more : {X : Type 0} (f : X → List ℕ) (xs : List X) (i : ℕ) (x : X) (first now : Option ℕ) → i < length xs → x ≡ get_or xs i x
    → first ≡ first_place (flat_map f (take i xs)) → now ≡ first_place (f x) → earlier first now ≡ first_place (flat_map f (take (i + 1) xs))
first_more f xs i x first now h e before own =
    ap (λ o. earlier o now) before ∙ ap (earlier (first_place (flat_map f (take i xs)))) own ∙ sym (first_append (flat_map f (take i xs)) (f x)) ∙ ap first_place (sym (flat_taken f xs i x h e))
