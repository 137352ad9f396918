-- Names that come once, and places that rise.
use Rattle.std.proofs.Common.{◌≡◌, ℕ, suc, ◌+◌, ◌≤◌, ◌<◌, Bool, true, false, ◌&&◌, ◌||◌, List, [], ◌∷◌, ◌++◌, bytes_eq, refl, sym, ap, ◌∙◌, subst, arith}
use Rattle.std.specs.Prelude.{nat_lt, if◌then◌else◌}
use Rattle.std.specs.List.{flat_map, list_any}
use Rattle.std.proofs.lemmas.Bool.{lt-ltb}
use Rattle.std.proofs.lemmas.Grind.{common_steps}
use Rattle.std.proofs.lemmas.Slice.Eq.{bytes_eq-Decides}
use Rattle.kom_system.specs.declared.parts.Spot.{Spot}
use Rattle.kom_rules.specs.Names.{Name, names_of, at_if, later, repeated}
use Rattle.kom_accept.proofs.Lists.{first_empty, second_empty, not_at}
use Rattle.kom_written.proofs.Rows.{Each, each_more, each_and}
use Rattle.kom_apart.specs.Apart.{times, AreOnce}

-- ---- equal names

self : (a : Name) → bytes_eq a a ≡ true
self a = (bytes_eq-Decides a a).1 refl

same_sym : (a b : Name) → bytes_eq a b ≡ false → bytes_eq b a ≡ false
same_sym a b e = by (bytes_eq b a) refl where
  by : (t : Bool) → bytes_eq b a ≡ t → t ≡ false
  by false h = refl
  by true h = let q : bytes_eq a b ≡ true = (bytes_eq-Decides a b).1 (sym ((bytes_eq-Decides b a).0 h)) in absurd cc

-- a name that comes nowhere is none of the names
nowhere : (n : Name) (spots : List Spot) → times n (names_of spots) ≡ 0 → Each (λ s. bytes_eq n s.name ≡ false) spots
nowhere n [] h = tt
nowhere n (s ∷ spots) h = by (bytes_eq n s.name) refl h (nowhere n spots) where
  by : (b : Bool) → bytes_eq n s.name ≡ b → (if b then 1 else 0) + times n (names_of spots) ≡ 0 → (times n (names_of spots) ≡ 0 → Each (λ x. bytes_eq n x.name ≡ false) spots) → (bytes_eq n s.name ≡ false) × Each (λ x. bytes_eq n x.name ≡ false) spots
  by true e h rest = absurd (omega arith)
  by false e h rest = (e, rest (omega arith))

none_times : (n : Name) (spots : List Spot) → Each (λ s. bytes_eq n s.name ≡ false) spots → times n (names_of spots) ≡ 0
none_times n [] h = refl
none_times n (s ∷ spots) h = ap (λ (b : Bool). (if b then 1 else 0) + times n (names_of spots)) h.0 ∙ (let z : 0 + times n (names_of spots) ≡ 0 = omega (arith, none_times n spots h.1) in z)

-- ---- names of which no two are equal

abbrev pub Apart : List Spot → Type 0
Apart [] = Unit {0}
Apart (s ∷ spots) = Each (λ t. bytes_eq s.name t.name ≡ false) spots × Apart spots

pub apart_from_once : (spots : List Spot) → AreOnce (names_of spots) → Apart spots
apart_from_once [] h = tt
apart_from_once (s ∷ spots) h =
    let one : 1 + times s.name (names_of spots) ≤ 1 = subst (λ (b : Bool). (if b then 1 else 0) + times s.name (names_of spots) ≤ 1) (self s.name) (h s.name) in
    let none : times s.name (names_of spots) ≡ 0 = omega arith in
    (nowhere s.name spots none, apart_from_once spots (λ n. (let q = h n in omega arith)))

pub once_from_apart : (spots : List Spot) → Apart spots → AreOnce (names_of spots)
once_from_apart [] h n = omega arith
once_from_apart (s ∷ spots) h n = by (bytes_eq n s.name) refl (once_from_apart spots h.1 n) where
  by : (b : Bool) → bytes_eq n s.name ≡ b → times n (names_of spots) ≤ 1 → (if b then 1 else 0) + times n (names_of spots) ≤ 1
  by true e rest =
      let q : n ≡ s.name = (bytes_eq-Decides n s.name).0 e in
      let none : times n (names_of spots) ≡ 0 = none_times n spots (subst (λ (m : Name). Each (λ t. bytes_eq m t.name ≡ false) spots) (sym q) h.0) in
      omega arith
  by false e rest = omega arith

-- ---- names that are repeated

-- the second name equals the first, and stands before it
abbrev pub clash : Spot → Spot → Bool
clash s t = bytes_eq s.name t.name && nat_lt t.at s.at

and_false : (a : Bool) → a && false ≡ false
and_false true = refl
and_false false = refl

self_none : (s : Spot) → clash s s ≡ false
self_none s = let z : nat_lt s.at s.at ≡ false = grind (arith, common_steps) in ap (λ b. bytes_eq s.name s.name && b) z ∙ and_false (bytes_eq s.name s.name)

differ_none : (s t : Spot) → bytes_eq s.name t.name ≡ false → clash s t ≡ false
differ_none s t e = ap (λ b. b && nat_lt t.at s.at) e

none_any : (s : Spot) (spots : List Spot) → Each (λ t. bytes_eq s.name t.name ≡ false) spots → list_any (clash s) spots ≡ false
none_any s [] h = refl
none_any s (t ∷ spots) h = ap (λ b. b || list_any (clash s) spots) (differ_none s t h.0) ∙ none_any s spots h.1

free : (spots : List Spot) → Apart spots → Each (λ s. list_any (clash s) spots ≡ false) spots
free [] h = tt
free (a ∷ spots) h = (
  ap (λ b. b || list_any (clash a) spots) (self_none a) ∙ none_any a spots h.0,
  each_more (λ s. (bytes_eq a.name s.name ≡ false) × (list_any (clash s) spots ≡ false)) (λ s. list_any (clash s) (a ∷ spots) ≡ false) spots
      (λ s q. ap (λ b. b || list_any (clash s) spots) (differ_none s a (same_sym a.name s.name q.0)) ∙ q.1)
      (each_and (λ s. bytes_eq a.name s.name ≡ false) (λ s. list_any (clash s) spots ≡ false) spots h.0 (free spots h.1)),
)

none_later : (all spots : List Spot) → Each (λ s. list_any (clash s) all ≡ false) spots → flat_map (later all) spots ≡ []
none_later all [] h = refl
none_later all (s ∷ spots) h = ap (λ b. at_if b s.at ++ flat_map (later all) spots) h.0 ∙ none_later all spots h.1

pub none_repeated : (spots : List Spot) → AreOnce (names_of spots) → repeated spots ≡ []
none_repeated spots h = none_later spots spots (free spots (apart_from_once spots h))

-- ---- the other way, where places rise

abbrev pub RisingFrom : ℕ → List Spot → Type 0
RisingFrom n [] = Unit {0}
RisingFrom n (s ∷ spots) = (n ≤ s.at) × RisingFrom (suc s.at) spots

pub rising_weaker : (n m : ℕ) (spots : List Spot) → n ≤ m → RisingFrom m spots → RisingFrom n spots
rising_weaker n m [] le h = tt
rising_weaker n m (s ∷ spots) le h = (let q = h.0 in omega arith, h.1)

above : (a n : ℕ) (spots : List Spot) → a < n → RisingFrom n spots → Each (λ t. a < t.at) spots
above a n [] less h = tt
above a n (s ∷ spots) less h = (let q = h.0 in omega arith, above a (suc s.at) spots (let q = h.0 in omega arith) h.1)

-- no two of these clash
abbrev pub Clashless : List Spot → List Spot → Type 0
Clashless all spots = Each (λ s. Each (λ t. clash s t ≡ false) all) spots

any_none : (s : Spot) (spots : List Spot) → list_any (clash s) spots ≡ false → Each (λ t. clash s t ≡ false) spots
any_none s [] h = tt
any_none s (t ∷ spots) h = by (clash s t) refl h (any_none s spots) where
  by : (b : Bool) → clash s t ≡ b → b || list_any (clash s) spots ≡ false → (list_any (clash s) spots ≡ false → Each (λ x. clash s x ≡ false) spots) → (clash s t ≡ false) × Each (λ x. clash s x ≡ false) spots
  by true e h rest = absurd cc
  by false e h rest = (e, rest h)

pub clashless : (all spots : List Spot) → flat_map (later all) spots ≡ [] → Clashless all spots
clashless all [] e = tt
clashless all (s ∷ spots) e =
    (any_none s all (not_at (list_any (clash s) all) s.at (first_empty (later all s) (flat_map (later all) spots) e)), clashless all spots (second_empty (later all s) (flat_map (later all) spots) e))

differ : (a s : Spot) → a.at < s.at → clash s a ≡ false → bytes_eq a.name s.name ≡ false
differ a s less h = same_sym s.name a.name (by (bytes_eq s.name a.name) (sym (ap (λ b. bytes_eq s.name a.name && b) (lt-ltb a.at s.at less)) ∙ h)) where
  by : (b : Bool) → b && true ≡ false → b ≡ false
  by true e = absurd cc
  by false e = refl

pub apart_from_rising : (n : ℕ) (spots : List Spot) → RisingFrom n spots → Clashless spots spots → Apart spots
apart_from_rising n [] r h = tt
apart_from_rising n (a ∷ spots) r h = (
  each_more (λ s. (a.at < s.at) × Each (λ t. clash s t ≡ false) (a ∷ spots)) (λ s. bytes_eq a.name s.name ≡ false) spots (λ s q. differ a s q.0 q.1.0)
      (each_and (λ s. a.at < s.at) (λ s. Each (λ t. clash s t ≡ false) (a ∷ spots)) spots (above a.at (suc a.at) spots (omega arith) r.1) h.1),
  apart_from_rising (suc a.at) spots r.1 (each_more (λ s. Each (λ t. clash s t ≡ false) (a ∷ spots)) (λ s. Each (λ t. clash s t ≡ false) spots) spots (λ s q. q.1) h.1),
)
