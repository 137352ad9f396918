-- Lists of places that are as long, and lists of parts without their places.
use Rattle.std.proofs.Common.{◌≡◌, ℕ, zero, suc, ◌+◌, Bool, true, false, List, [], ◌∷◌, ◌++◌, map, length, take, drop, Option, Some, None, slice_get, refl, sym, ap, ◌∙◌, length-append}
use Rattle.std.specs.List.{flat_map, enumerate_from}
use Rattle.std.specs.Option.{option_map, option_map_or}
use Rattle.std.proofs.lemmas.List.Concat.{flat_map-append}
use Rattle.std.proofs.lemmas.List.{length-map}
use Rattle.kom_system.specs.declared.parts.Spot.{Spot}
use Rattle.kom_rules.specs.Names.{names_of, at_if}
use Rattle.kom_written.specs.Unplaced.{spot}

-- as many places
pub record AsMany (xs ys : List ℕ) : Type 0 where
  pub same : length xs ≡ length ys

pub nothing : AsMany [] []
nothing = record { same = refl }

pub one : {a b : Bool} (p q : ℕ) → a ≡ b → AsMany (at_if a p) (at_if b q)
one {a = a} {b = b} p q e = record { same = ap (λ c. length (at_if c p)) e ∙ by b } where
  by : (c : Bool) → length (at_if c p) ≡ length (at_if c q)
  by true = refl
  by false = refl

pub both : {a b c d : List ℕ} → AsMany a b → AsMany c d → AsMany (a ++ c) (b ++ d)
both {a = a} {b = b} {c = c} {d = d} h k = record { same = length-append a c ∙ ap (λ n. n + length c) h.same ∙ ap (λ n. length b + n) k.same ∙ sym (length-append b d) }

pub each : {X Y : Type 0} (f : Y → List ℕ) (g : X → List ℕ) (part : X → Y) (xs : List X) → ((x : X) → AsMany (f (part x)) (g x)) → AsMany (flat_map f (map part xs)) (flat_map g xs)
each f g part [] h = nothing
each f g part (x ∷ xs) h = both (h x) (each f g part xs h)

pub each_here : {X : Type 0} (f g : X → List ℕ) (xs : List X) → ((x : X) → AsMany (f x) (g x)) → AsMany (flat_map f xs) (flat_map g xs)
each_here f g [] h = nothing
each_here f g (x ∷ xs) h = both (h x) (each_here f g xs h)

pub each_numbered : {X Y : Type 0} (f : ℕ × Y → List ℕ) (g : ℕ × X → List ℕ) (part : X → Y) (n : ℕ) (xs : List X) → ((k : ℕ) (x : X) → AsMany (f (k, part x)) (g (k, x))) → AsMany (flat_map f (enumerate_from n (map part xs))) (flat_map g (enumerate_from n xs))
each_numbered f g part n [] h = nothing
each_numbered f g part n (x ∷ xs) h = both (h n x) (each_numbered f g part (n + 1) xs h)

-- two rows, each with as many
pub rows : {X Y : Type 0} (f : X → List ℕ) (g : Y → List ℕ) (xs us : List X) (ys vs : List Y) → AsMany (flat_map f xs) (flat_map g ys) → AsMany (flat_map f us) (flat_map g vs) → AsMany (flat_map f (xs ++ us)) (flat_map g (ys ++ vs))
rows f g xs us ys vs h k = let r = both h k in record { same = ap length (flat_map-append f xs us) ∙ r.same ∙ sym (ap length (flat_map-append g ys vs)) }

-- what is said of something that may be missing
pub maybe : {X Y : Type 0} (f : Y → List ℕ) (g : X → List ℕ) (part : X → Y) (p : Option Y) (o : Option X) → p ≡ option_map part o → ((x : X) → AsMany (f (part x)) (g x)) → AsMany (option_map_or f p []) (option_map_or g o [])
maybe f g part p o e h = record { same = ap (λ q. length (option_map_or f q [])) e ∙ by o } where
  by : (q : Option _) → length (option_map_or f (option_map part q) []) ≡ length (option_map_or g q [])
  by None = refl
  by (Some x) = (h x).same

pub mapped : {X Y : Type 0} (f : Y → ℕ) (g : X → ℕ) (part : X → Y) (xs : List X) → AsMany (map f (map part xs)) (map g xs)
mapped f g part xs = record { same = length-map (map part xs) f ∙ length-map xs part ∙ sym (length-map xs g) }

-- ---- lists of parts

pub got : {X Y : Type 0} (part : X → Y) (xs : List X) (k : ℕ) → slice_get (map part xs) k ≡ option_map part (slice_get xs k)
got part [] k = refl
got part (x ∷ xs) zero = refl
got part (x ∷ xs) (suc k) = got part xs k

pub taken : {X Y : Type 0} (part : X → Y) (n : ℕ) (xs : List X) → take n (map part xs) ≡ map part (take n xs)
taken part zero xs = refl
taken part (suc n) [] = refl
taken part (suc n) (x ∷ xs) = ap (λ ys. part x ∷ ys) (taken part n xs)

pub dropped : {X Y : Type 0} (part : X → Y) (n : ℕ) (xs : List X) → drop n (map part xs) ≡ map part (drop n xs)
dropped part zero xs = refl
dropped part (suc n) [] = refl
dropped part (suc n) (x ∷ xs) = dropped part n xs

pub mapped_same : {X Y Z : Type 0} (f : Y → Z) (g : X → Z) (part : X → Y) (xs : List X) → ((x : X) → f (part x) ≡ g x) → map f (map part xs) ≡ map g xs
mapped_same f g part [] h = refl
mapped_same f g part (x ∷ xs) h = ap (λ y. y ∷ map f (map part xs)) (h x) ∙ ap (λ ys. g x ∷ ys) (mapped_same f g part xs h)

pub map_same : {X Z : Type 0} (f g : X → Z) (xs : List X) → ((x : X) → f x ≡ g x) → map f xs ≡ map g xs
map_same f g [] h = refl
map_same f g (x ∷ xs) h = ap (λ y. y ∷ map f xs) (h x) ∙ ap (λ ys. g x ∷ ys) (map_same f g xs h)

pub option_same : {X Y Z : Type 0} (f : Y → Z) (g : X → Z) (part : X → Y) (o : Option X) → ((x : X) → f (part x) ≡ g x) → option_map f (option_map part o) ≡ option_map g o
option_same f g part None h = refl
option_same f g part (Some x) h = ap Some (h x)

-- names of parts are not changed
pub names_same : {X Y : Type 0} (name : Y → Spot) (old : X → Spot) (part : X → Y) (xs : List X) → ((x : X) → (name (part x)).name ≡ (old x).name) → names_of (map name (map part xs)) ≡ names_of (map old xs)
names_same name old part [] h = refl
names_same name old part (x ∷ xs) h = ap (λ n. n ∷ names_of (map name (map part xs))) (h x) ∙ ap (λ ns. (old x).name ∷ ns) (names_same name old part xs h)

pub spots_same : (xs : List Spot) → names_of (map spot xs) ≡ names_of xs
spots_same [] = refl
spots_same (s ∷ xs) = ap (λ ns. s.name ∷ ns) (spots_same xs)
