-- Members of lists that are made by `filter_map` and `least`.
use Rattle.std.proofs.Common.{◌≡◌, Bool, true, false, cond, refl, ap, subst, List, [], ◌∷◌, Option, Some, None}
use Rattle.std.specs.List.{filter_map, cons_option}
use Rattle.kom_base.specs.Lists.{least, lesser}

-- x is in the list
pub data IsIn {X : Type 0} (x : X) : List X → Type 0 where
  here : {xs : List X} → IsIn x (x ∷ xs)
  there : {y : X} {xs : List X} → IsIn x xs → IsIn x (y ∷ xs)

some_injective : {X : Type 0} {x y : X} → Some x ≡ Some y → x ≡ y
some_injective {X} {x} e = ap (λ o. Rattle.std.specs.Prelude.unwrap_or o x) e

pub Some-injective : {X : Type 0} {x y : X} → Some x ≡ Some y → x ≡ y
Some-injective e = some_injective e

made_by_or : {X Y : Type 0} (f : X → Option Y) (x : X) (xs : List X) (y : Y) (o : Option Y) → f x ≡ o → (IsIn y (filter_map f xs) → (z : X) × (f z ≡ Some y)) → IsIn y (cons_option o (filter_map f xs)) → (z : X) × (f z ≡ Some y)
made_by_or f x xs y None e rest h = rest h
made_by_or f x xs y (Some z) e rest here = (x, e)
made_by_or f x xs y (Some z) e rest (there h) = rest h

pub made_by : {X Y : Type 0} (f : X → Option Y) (xs : List X) (y : Y) → IsIn y (filter_map f xs) → (x : X) × (f x ≡ Some y)
made_by f [] y h = elim h [ ]
made_by f (x ∷ xs) y h = made_by_or f x xs y (f x) refl (made_by f xs y) h

choose_in : {X : Type 0} (x y z : X) (xs : List X) (b : Bool) → IsIn z xs → cond b z x ≡ y → IsIn y (x ∷ xs)
choose_in x y z xs true h e = there (subst (λ w. IsIn w xs) e h)
choose_in x y z xs false h e = subst (λ w. IsIn w (x ∷ xs)) e here

lesser_in : {X : Type 0} (before : X → X → Bool) (x y : X) (xs : List X) (o : Option X) → ((z : X) → o ≡ Some z → IsIn z xs) → Some (lesser before x o) ≡ Some y → IsIn y (x ∷ xs)
lesser_in before x y xs None rest e = subst (λ w. IsIn w (x ∷ xs)) (some_injective e) here
lesser_in before x y xs (Some z) rest e = choose_in x y z xs (before z x) (rest z refl) (some_injective e)

pub least_in : {X : Type 0} (before : X → X → Bool) (xs : List X) (y : X) → least before xs ≡ Some y → IsIn y xs
least_in before [] y e = absurd cc
least_in before (x ∷ xs) y e = lesser_in before x y xs (least before xs) (λ z. least_in before xs z) e
