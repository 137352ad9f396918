-- The least of the places in two lists, and in a list that grows.
use Rattle.std.proofs.Common.{◌≡◌, ℕ, ◌<◌, Bool, true, false, List, [], ◌∷◌, ◌++◌, length, take, ◌+◌, Option, Some, None, refl, sym, ◌∙◌, ap, arith, ◌||◌, append_assoc, get_or}
use Rattle.std.specs.Prelude.{nat_lt}
use Rattle.std.specs.List.{flat_map, list_any}
use Rattle.std.proofs.lemmas.List.Folds.{list_any-append}
use Rattle.std.proofs.lemmas.List.{append-nil, take_more}
use Rattle.std.proofs.lemmas.List.Concat.{flat_map-append}
use Rattle.std.proofs.lemmas.Bool.Decides.{nat_tests}
use Rattle.kom_base.specs.Lists.{lesser}
use Rattle.kom_scenario.specs.Rules.{first_place, earlier, along}

lesser-assoc : (x y z : ℕ) → lesser nat_lt x (Some (lesser nat_lt y (Some z))) ≡ lesser nat_lt (lesser nat_lt x (Some y)) (Some z)
lesser-assoc x y z = grind (arith, nat_tests)

both : (x : ℕ) (o p : Option ℕ) → Some (lesser nat_lt x (earlier o p)) ≡ earlier (Some (lesser nat_lt x o)) p
both x None p = refl
both x (Some y) None = refl
both x (Some y) (Some z) = ap Some (lesser-assoc x y z)

pub first_place-append : (xs ys : List ℕ) → first_place (xs ++ ys) ≡ earlier (first_place xs) (first_place ys)
first_place-append [] ys = refl
first_place-append (x ∷ xs) ys = ap (λ o. Some (lesser nat_lt x o)) (first_place-append xs ys) ∙ both x (first_place xs) (first_place ys)

pub earlier_of : (a b : Option ℕ) (xs ys : List ℕ) → a ≡ first_place xs → b ≡ first_place ys → earlier a b ≡ first_place (xs ++ ys)
earlier_of a b xs ys e e' = rw (e, e') (sym (first_place-append xs ys))

-- ---- lists that grow by one

pub flat_map_more : {A : Type 0} (f : A → List ℕ) (xs : List A) (i : ℕ) (d : A) → i < length xs → flat_map f (take (i + 1) xs) ≡ flat_map f (take i xs) ++ f (get_or xs i d)
flat_map_more f xs i d less = rw (take_more xs i d less, flat_map-append) (rw append-nil refl)

along-append : {A : Type 0} (f : List A → A → List ℕ) (before xs : List A) (x : A) → along f before (xs ++ x ∷ []) ≡ along f before xs ++ f (before ++ xs) x
along-append f before [] x = rw (append-nil, append-nil) refl
along-append f before (y ∷ ys) x =
    let e : (before ++ y ∷ []) ++ ys ≡ before ++ y ∷ ys = append_assoc before (y ∷ []) ys in
    ap (λ r. f before y ++ r) (rw e at (along-append f (before ++ y ∷ []) ys x)) ∙ sym (append_assoc (f before y) (along f (before ++ y ∷ []) ys) (f (before ++ y ∷ ys) x))

pub along_more : {A : Type 0} (f : List A → A → List ℕ) (xs : List A) (i : ℕ) (d : A) → i < length xs → along f [] (take (i + 1) xs) ≡ along f [] (take i xs) ++ f (take i xs) (get_or xs i d)
along_more f xs i d less = rw (take_more xs i d less) (along-append f [] (take i xs) (get_or xs i d))

pub any_more : {A : Type 0} (f : A → Bool) (xs : List A) (i : ℕ) (d : A) → i < length xs → list_any f (take (i + 1) xs) ≡ (list_any f (take i xs) || f (get_or xs i d))
any_more f xs i d less = rw (take_more xs i d less, list_any-append) (ap (λ b. list_any f (take i xs) || b) (or_false (f (get_or xs i d)))) where
  or_false : (b : Bool) → (b || false) ≡ b
  or_false true = refl
  or_false false = refl

-- the same for an element that is known
pub along_onto : {A : Type 0} (f : List A → A → List ℕ) (xs : List A) (i : ℕ) (x : A) → i < length xs → x ≡ get_or xs i x → along f [] (take (i + 1) xs) ≡ along f [] (take i xs) ++ f (take i xs) x
along_onto f xs i x less is = along_more f xs i x less ∙ ap (λ y. along f [] (take i xs) ++ f (take i xs) y) (sym is)
