-- Numbers of names in a list behind another.
use Rattle.std.proofs.Common.{◌≡◌, ℕ, ◌+◌, ◌<◌, Bool, true, false, not, cond, List, [], ◌∷◌, ◌++◌, length, map, Some, None, if◌then◌else◌, refl, sym, ap, ◌∙◌, arith, bytes_eq, append-nil, unwrap_or}
use Rattle.std.proofs.lemmas.List.{length-map}
use Rattle.kom_system.specs.declared.parts.Spot.{Spot}
use Rattle.kom_rules.specs.Names.{Name, names_of, number_in}
use Rattle.kom_lookups.specs.Numbered.{number_from}

same_some : (a b : ℕ) → Some a ≡ Some b → a ≡ b
same_some a b e = ap (λ o. unwrap_or o a) e

-- a name of the first list
pub front : (n : ℕ) (xs ys : List Name) (q : Name) (k : ℕ) → number_from n xs q ≡ Some k → n + number_in (xs ++ ys) q ≡ k
front n [] ys q k e = cc
front n (x ∷ xs) ys q k e = by (bytes_eq q x) (front (n + 1) xs ys q k) e where
  by : (b : Bool) → (number_from (n + 1) xs q ≡ Some k → (n + 1) + number_in (xs ++ ys) q ≡ k)
      → (if b then Some n else number_from (n + 1) xs q) ≡ Some k → n + cond (not b) (1 + number_in (xs ++ ys) q) 0 ≡ k
  by true rest f = let g = same_some n k f in omega arith
  by false rest f = let g = rest f in omega arith

-- one that it lacks
pub behind : (n : ℕ) (xs ys : List Name) (q : Name) → number_from n xs q ≡ None → number_in (xs ++ ys) q ≡ length xs + number_in ys q
behind n [] ys q e = omega arith
behind n (x ∷ xs) ys q e = by (bytes_eq q x) (behind (n + 1) xs ys q) e where
  by : (b : Bool) → (number_from (n + 1) xs q ≡ None → number_in (xs ++ ys) q ≡ length xs + number_in ys q)
      → (if b then Some n else number_from (n + 1) xs q) ≡ None → cond (not b) (1 + number_in (xs ++ ys) q) 0 ≡ length (x ∷ xs) + number_in ys q
  by true rest f = cc
  by false rest f = let g = rest f in omega arith

pub within : (n : ℕ) (xs : List Name) (q : Name) (k : ℕ) → number_from n xs q ≡ Some k → k < n + length xs
within n [] q k e = cc
within n (x ∷ xs) q k e = by (bytes_eq q x) (within (n + 1) xs q k) e where
  by : (b : Bool) → (number_from (n + 1) xs q ≡ Some k → k < (n + 1) + length xs) → (if b then Some n else number_from (n + 1) xs q) ≡ Some k → k < n + length (x ∷ xs)
  by true rest f = let g = same_some n k f in omega arith
  by false rest f = let g = rest f in omega arith

as_many : {X : Type 0} (f : X → Spot) (xs : List X) → length (names_of (map f xs)) ≡ length xs
as_many f xs = length-map (map f xs) (λ s. s.name) ∙ length-map xs f

-- a declared name behind those that are built in
pub behind_built_in : {X : Type 0} (f : X → Spot) (built_in : List Name) (parts : List X) (q : Name) (k : ℕ) → None ≡ number_from 0 built_in q → Some k ≡ number_from 0 (names_of (map f parts)) q
    → length built_in + k ≡ number_in (built_in ++ names_of (map f parts)) q
behind_built_in f built_in parts q k none some =
    let names = names_of (map f parts) in
    let own : 0 + number_in (names ++ []) q ≡ k = front 0 names [] q k (sym some) in
    let plain : number_in (names ++ []) q ≡ number_in names q = ap (λ ns. number_in ns q) (append-nil names) in
    let all : number_in (built_in ++ names) q ≡ length built_in + number_in names q = behind 0 built_in names q (sym none) in
    omega arith

pub behind_all : {X : Type 0} (f : X → Spot) (built_in : List Name) (parts : List X) (q : Name) (count : ℕ) → None ≡ number_from 0 built_in q → None ≡ number_from 0 (names_of (map f parts)) q → count ≡ length parts
    → length built_in + count ≡ number_in (built_in ++ names_of (map f parts)) q
behind_all f built_in parts q count none lacking e =
    let names = names_of (map f parts) in
    let own : number_in (names ++ []) q ≡ length names + number_in [] q = behind 0 names [] q (sym lacking) in
    let nothing : number_in [] q ≡ 0 = refl in
    let plain : number_in (names ++ []) q ≡ number_in names q = ap (λ ns. number_in ns q) (append-nil names) in
    let all : number_in (built_in ++ names) q ≡ length built_in + number_in names q = behind 0 built_in names q (sym none) in
    let many : length names ≡ length parts = as_many f parts in
    omega arith

pub in_built_in : (built_in names : List Name) (q : Name) (k : ℕ) → Some k ≡ number_from 0 built_in q → k ≡ number_in (built_in ++ names) q
in_built_in built_in names q k some = let e : 0 + number_in (built_in ++ names) q ≡ k = front 0 built_in names q k (sym some) in omega arith

pub few : {X : Type 0} (f : X → Spot) (parts : List X) (q : Name) (k : ℕ) → Some k ≡ number_from 0 (names_of (map f parts)) q → k < length parts
few f parts q k some = let h = within 0 (names_of (map f parts)) q k (sym some) in omega (arith, h, as_many f parts)

-- ---- where none is built in

pub declared_alone : {X : Type 0} (f : X → Spot) (parts : List X) (q : Name) (k : ℕ) → Some k ≡ number_from 0 (names_of (map f parts)) q → k ≡ number_in (names_of (map f parts)) q
declared_alone f parts q k some = let e : 0 + k ≡ number_in (names_of (map f parts)) q = behind_built_in f [] parts q k refl some in omega arith

pub undeclared_alone : {X : Type 0} (f : X → Spot) (parts : List X) (q : Name) (count : ℕ) → None ≡ number_from 0 (names_of (map f parts)) q → count ≡ length parts → count ≡ number_in (names_of (map f parts)) q
undeclared_alone f parts q count none e = let all : 0 + count ≡ number_in (names_of (map f parts)) q = behind_all f [] parts q count refl none e in omega arith
