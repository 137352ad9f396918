-- What is known of a tree's entries once its node is a fork, or none.
use Rattle.std.proofs.Common.{◌≡◌, ◌<◌, List, ◌∷◌, ◌++◌, length, Option, Some, None, Ordering, sym, ap, ◌∙◌, subst, arith, length-append}
use Rattle.std.specs.Option.{option_map}
use Rattle.kom_index.specs.Entries.{Rises}

pub record AtFork {K V : Type 0} (R : K → K → Ordering) (d l : List (K × V)) (k : K) (v : V) (r : List (K × V)) : Type 0 where
  pub is : d ≡ l ++ (k, v) ∷ r
  pub rises : Rises R (l ++ (k, v) ∷ r)
  pub left_shorter : length l < length d
  pub right_shorter : length r < length d

pub at_fork : {K V : Type 0} (R : K → K → Ordering) (d l : List (K × V)) (k : K) (v : V) (r : List (K × V)) (whole : List (K × V)) → whole ≡ d → Rises R whole → whole ≡ l ++ (k, v) ∷ r → AtFork R d l k v r
at_fork R d l k v r whole e h is = record {
  is = sym e ∙ is;
  rises = subst (Rises R) is h;
  left_shorter = omega (arith, ap length e, ap length is, length-append l ((k, v) ∷ r));
  right_shorter = omega (arith, ap length e, ap length is, length-append l ((k, v) ∷ r));
}

-- what is left of a list whose first entry left, before others
pub rises_behind : {A K V : Type 0} (R : K → K → Ordering) (o : Option A) (entry : A → K × V) (rest all more : List (K × V)) → option_map (λ a. entry a ∷ rest) o ≡ Some all → Rises R (all ++ more) → Rises R (rest ++ more)
rises_behind R None entry rest all more e h = absurd (cc)
rises_behind R (Some a) entry rest all more e h = let is : entry a ∷ rest ≡ all = cc in (subst (λ l. Rises R (l ++ more)) (sym is) h).1

-- the value of the entry that left
pub value_left_with : {A K V : Type 0} (o : Option A) (key : A → K) (value : A → V) (k : K) (v : V) → option_map {U = K × V} (λ a. (key a, value a)) o ≡ Some (k, v) → Some v ≡ option_map value o
value_left_with None key value k v e = absurd (cc)
value_left_with {K = K} {V = V} (Some a) key value k v e = ap (option_map (λ (p : K × V). p.1)) (sym e)
