-- Lists of keys against the lists of their names.
use Rattle.std.proofs.Common.{◌≡◌, Vec, Global, ℕ, Bool, true, false, not, List, [], ◌∷◌, ◌++◌, map, Option, if◌then◌else◌, refl, sym, ap, ◌∙◌, bytes_eq}
use Rattle.std.specs.List.{list_any, prefix_len, position}
use Rattle.std.proofs.lemmas.List.{length-map, map-append}
use Rattle.kom_rules.specs.Names.{Name, is_among, with_name}

pub any_map : {X Y : Type 0} (f : X → Y) (p : Y → Bool) (xs : List X) → list_any p (map f xs) ≡ list_any (λ x. p (f x)) xs
any_map f p [] = refl
any_map f p (x ∷ xs) = rw (any_map f p xs) refl

prefix_map : {X Y : Type 0} (f : X → Y) (p : Y → Bool) (xs : List X) → prefix_len p (map f xs) ≡ prefix_len (λ x. p (f x)) xs
prefix_map f p [] = refl
prefix_map f p (x ∷ xs) = rw (prefix_map f p xs) refl

pub position_map : {X Y : Type 0} (f : X → Y) (p : Y → Bool) (xs : List X) → position p (map f xs) ≡ position (λ x. p (f x)) xs
position_map f p xs = rw (prefix_map f (λ y. not (p y)) xs, length-map xs f) refl

added : {X : Type 0} (f : X → Name) (k : X) (ks : List X) (b : Bool) → map f (if b then ks else ks ++ k ∷ []) ≡ (if b then map f ks else map f ks ++ f k ∷ [])
added f k ks true = refl
added f k ks false = map-append f ks (k ∷ [])

pub with_name_map : {X : Type 0} (f : X → Name) (k : X) (ks keys : List X) (n : Name) → f k ≡ n → keys ≡ (if list_any (λ x. bytes_eq (f k) (f x)) ks then ks else ks ++ k ∷ []) → map f keys ≡ with_name (map f ks) n
with_name_map f k ks keys n is made =
    ap (map f) made ∙ added f k ks (list_any (λ x. bytes_eq (f k) (f x)) ks)
    ∙ ap (λ b. if b then map f ks else map f ks ++ f k ∷ []) (sym (any_map f (bytes_eq (f k)) ks))
    ∙ ap (with_name (map f ks)) is

-- the name of a key
abbrev pub bytes_of : Vec ℕ Global → Name
bytes_of k = k.items

pub held : (q : Name) (keys : List (Vec ℕ Global)) (r : Bool) → r ≡ list_any (λ k. bytes_eq q k.items) keys → r ≡ is_among (map bytes_of keys) q
held q keys r e = e ∙ sym (any_map bytes_of (bytes_eq q) keys)

pub numbered : (q : Name) (keys : List (Vec ℕ Global)) (r : Option ℕ) → r ≡ position (λ k. bytes_eq q k.items) keys → r ≡ position (bytes_eq q) (map bytes_of keys)
numbered q keys r e = e ∙ sym (position_map bytes_of (bytes_eq q) keys)
