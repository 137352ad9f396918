-- Numbers of names in lists that are joined, and how large they are.
use Rattle.std.proofs.Common.{ltb, zero, ◌&&◌, nat_le, slice_get, ◌≡◌, ℕ, suc, ◌+◌, ◌≤◌, Bool, true, false, not, cond, List, [], ◌∷◌, map, length, position, Some, None, if◌then◌else◌, refl, sym, ◌∙◌, arith, bytes_eq}
use Rattle.std.specs.List.{list_all}
use Rattle.std.proofs.lemmas.Bool.{ltb-false, leb-true}
use Rattle.std.proofs.lemmas.List.{length-map}
use Rattle.kom_system.specs.declared.parts.Spot.{Spot}
use Rattle.kom_system.specs.declared.parts.ComponentPart.{ComponentPart}
use Rattle.kom_resolve.specs.Counted.{has_short_lists}
use Rattle.kom_rules.specs.Names.{Name, names_of, number_in}
use Rattle.kom_lookups.specs.Numbered.{number_from}

-- a number is at most the count of the names
pub number_fits : (names : List Name) (n : Name) → number_in names n ≤ length names
number_fits [] n = omega arith
number_fits (x ∷ names) n = by (bytes_eq n x) (number_fits names n) where
  by : (b : Bool) → number_in names n ≤ length names → cond (not b) (1 + number_in names n) 0 ≤ suc (length names)
  by true h = omega arith
  by false h = omega arith

from_is : (k : ℕ) (names : List Name) (n : Name) (m : ℕ) → number_from k names n ≡ Some m → m ≡ k + number_in names n
from_is k [] n m e = absurd cc
from_is k (x ∷ names) n m e = by (bytes_eq n x) (from_is (k + 1) names n m) e where
  by : (b : Bool) → (number_from (k + 1) names n ≡ Some m → m ≡ (k + 1) + number_in names n) → (if b then Some k else number_from (k + 1) names n) ≡ Some m → m ≡ k + cond (not b) (1 + number_in names n) 0
  by true h f = let same : k ≡ m = cc in omega arith
  by false h f = let same = h f in omega arith

from_none : (k : ℕ) (names : List Name) (n : Name) → number_from k names n ≡ None → number_in names n ≡ length names
from_none k [] n e = refl
from_none k (x ∷ names) n e = by (bytes_eq n x) (from_none (k + 1) names n) e where
  by : (b : Bool) → (number_from (k + 1) names n ≡ None → number_in names n ≡ length names) → (if b then Some k else number_from (k + 1) names n) ≡ None → cond (not b) (1 + number_in names n) 0 ≡ suc (length names)
  by true h f = absurd cc
  by false h f = let same = h f in omega arith

pub found_is : (names : List Name) (n : Name) (m : ℕ) → Some m ≡ number_from 0 names n → m ≡ number_in names n
found_is names n m e = let same = from_is 0 names n m (sym e) in omega arith

pub missing_is : (names : List Name) (n : Name) (count : ℕ) → None ≡ number_from 0 names n → count ≡ length names → count ≡ number_in names n
missing_is names n count e long = long ∙ sym (from_none 0 names n (sym e))

-- the number of a name where it is among the names, and their count where it is not
pub position_is : (names : List Name) (n : Name) (m : ℕ) → Some m ≡ position (bytes_eq n) names → m ≡ number_in names n
position_is names n m e = by (ltb (number_in names n) (length names)) e where
  by : (t : Bool) → Some m ≡ cond t (Some (number_in names n)) None → m ≡ number_in names n
  by true f = cc
  by false f = absurd cc

pub position_none : (names : List Name) (n : Name) → None ≡ position (bytes_eq n) names → length names ≡ number_in names n
position_none names n e = let within = number_fits names n in by (ltb (number_in names n) (length names)) refl e within where
  by : (t : Bool) → ltb (number_in names n) (length names) ≡ t → None ≡ cond t (Some (number_in names n)) None → number_in names n ≤ length names → length names ≡ number_in names n
  by true lt f h = absurd cc
  by false lt f h = let le = ltb-false _ _ lt in omega arith

pub names_long : {X : Type 0} (f : X → Spot) (xs : List X) → length xs ≡ length (names_of (map f xs))
names_long f xs = sym (length-map (map f xs) (λ s. s.name) ∙ length-map xs f)

-- a number is at most what the names are in count
pub number_within : {X : Type 0} (f : X → Spot) (xs : List X) (n : Name) → number_in (names_of (map f xs)) n ≤ length xs
number_within f xs n = let h = number_fits (names_of (map f xs)) n in let e = names_long f xs in omega arith

-- ---- lists whose members all pass a test

and_first : (a b : Bool) → a && b ≡ true → a ≡ true
and_first true b e = refl
and_first false b e = absurd cc

and_second : (a b : Bool) → a && b ≡ true → b ≡ true
and_second true b e = e
and_second false b e = absurd cc

pub passes_at : {X : Type 0} (f : X → Bool) (xs : List X) (k : ℕ) (x : X) → list_all f xs ≡ true → slice_get xs k ≡ Some x → f x ≡ true
passes_at f [] k x all e = absurd cc
passes_at f (y ∷ xs) zero x all e = let same : y ≡ x = cc in rw (← same) (and_first (f y) (list_all f xs) all)
passes_at f (y ∷ xs) (suc k) x all e = passes_at f xs k x (and_second (f y) (list_all f xs) all) e

pub record HasShort (c : ComponentPart) : Type 0 where
  pub ports : length c.ports ≤ 255
  pub vars : length c.vars ≤ 255
  pub slots : length c.slots ≤ 255
  pub channels : length c.channels ≤ 255
  pub handlers : length c.handlers ≤ 255

five : (a b c d e : ℕ) → nat_le a 255 && (nat_le b 255 && (nat_le c 255 && (nat_le d 255 && nat_le e 255))) ≡ true → (a ≤ 255) × (b ≤ 255) × (c ≤ 255) × (d ≤ 255) × (e ≤ 255)
five a b c d e h =
    let after_a = and_second (nat_le a 255) _ h in
    let after_b = and_second (nat_le b 255) _ after_a in
    let after_c = and_second (nat_le c 255) _ after_b in
    (leb-true a 255 (and_first _ _ h), leb-true b 255 (and_first _ _ after_a), leb-true c 255 (and_first _ _ after_b), leb-true d 255 (and_first _ _ after_c), leb-true e 255 (and_second _ _ after_c))

pub short : (c : ComponentPart) → has_short_lists c ≡ true → HasShort c
short c h =
    let all = five (length c.ports) (length c.vars) (length c.slots) (length c.channels) (length c.handlers) h in
    record { ports = all.0; vars = all.1; slots = all.2; channels = all.3; handlers = all.4 }

-- the number of a name among those of few parts
pub few : {X : Type 0} (f : X → Spot) (xs : List X) (n : Name) (r : ℕ) → length xs ≤ 255 → r ≡ number_in (names_of (map f xs)) n → r ≤ 255
few f xs n r small is = let within = number_within f xs n in omega arith
