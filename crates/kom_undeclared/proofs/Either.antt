-- Names in one list or another.
use Rattle.std.proofs.Common.{◌≡◌, ℕ, zero, suc, ◌≤◌, length, arith, Bool, true, false, not, ◌||◌, List, [], ◌∷◌, ◌++◌, Option, Some, None, slice_get, refl, sym, ap, ◌∙◌}
use Rattle.std.specs.List.{list_any}
use Rattle.std.specs.Option.{option_map_or}
use Rattle.kom_system.specs.declared.parts.Spot.{Spot}
use Rattle.kom_system.specs.declared.parts.ComponentPart.{ComponentPart}
use Rattle.kom_walks.proofs.Firsts.{first_append}
use Rattle.kom_rules.specs.Names.{Name, is_among, at_if, earlier, first_place, unknown}
use Rattle.kom_rules.specs.Declaring.{unknown_port}
use Rattle.kom_lookups.specs.declared.tables.Names.{Names}
use Rattle.kom_lookups.specs.Tabled.{HasNames, AllHaveNames}

some_none : {X : Type 0} {x : X} → Some x ≡ None → ⊥
some_none e = cc

past : {X : Type 0} (xs : List X) (k : ℕ) → slice_get xs k ≡ None → length xs ≤ k
past [] k e = omega arith
past (x ∷ xs) zero e = absurd (some_none e)
past (x ∷ xs) (suc k) e = let h = past xs k e in omega arith

slice_get_past : {X : Type 0} (xs : List X) (k : ℕ) → length xs ≤ k → slice_get xs k ≡ None
slice_get_past [] k h = refl
slice_get_past (x ∷ xs) zero h = absurd (omega arith)
slice_get_past (x ∷ xs) (suc k) h = slice_get_past xs k (omega arith)

or_grouped : (a b c : Bool) → a || (b || c) ≡ (a || b) || c
or_grouped true b c = refl
or_grouped false b c = refl

or_other : (a b : Bool) → a || b ≡ b || a
or_other true true = refl
or_other true false = refl
or_other false true = refl
or_other false false = refl

pub any_append : {X : Type 0} (p : X → Bool) (xs ys : List X) → list_any p (xs ++ ys) ≡ list_any p xs || list_any p ys
any_append p [] ys = refl
any_append p (x ∷ xs) ys = ap (λ b. p x || b) (any_append p xs ys) ∙ or_grouped (p x) (list_any p xs) (list_any p ys)

pub known_first : (a b : List Name) (s : Spot) (r : Option ℕ) → r ≡ first_place (at_if (not (is_among a s.name || is_among b s.name)) s.at) → r ≡ first_place (unknown (a ++ b) s)
known_first a b s r h = h ∙ ap (λ x. first_place (at_if (not x) s.at)) (sym (any_append _ a b))

pub known_second : (a b : List Name) (s : Spot) (r : Option ℕ) → r ≡ first_place (at_if (not (is_among b s.name || is_among a s.name)) s.at) → r ≡ first_place (unknown (a ++ b) s)
known_second a b s r h = known_first a b s r (h ∙ ap (λ x. first_place (at_if (not x) s.at)) (or_other (is_among b s.name) (is_among a s.name)))

-- ---- the names of a component type by its number

abbrev pub unknown_in : Spot → Option ComponentPart → List ℕ
unknown_in port o = option_map_or (λ t. unknown_port t port) o []

pub in_inside : (inside : List Names) (parts : List ComponentPart) (k : ℕ) (names : Names) (port : Spot) (r : Option ℕ) → AllHaveNames inside parts → Some names ≡ slice_get inside k
    → ((c : ComponentPart) → HasNames names c → r ≡ first_place (unknown_port c port)) → r ≡ first_place (unknown_in port (slice_get parts k))
in_inside inside parts k names port r all e h = by (slice_get parts k) refl where
  short : slice_get parts k ≡ None → ⊥
  short none = some_none (e ∙ slice_get_past inside k (omega (arith, all.count, past parts k none)))

  by : (o : Option ComponentPart) → slice_get parts k ≡ o → r ≡ first_place (unknown_in port o)
  by None f = absurd (short f)
  by (Some c) f = h c (all.each k names c (sym e) f)

pub not_inside : (inside : List Names) (parts : List ComponentPart) (k : ℕ) → AllHaveNames inside parts → None ≡ slice_get inside k → slice_get parts k ≡ None
not_inside inside parts k all e = slice_get_past parts k (omega (arith, all.count, past inside k (sym e)))

pub both_first : (a b : List ℕ) (r s : Option ℕ) → r ≡ first_place a → s ≡ first_place b → earlier r s ≡ first_place (a ++ b)
both_first a b r s e f = rw (e, f) (sym (first_append a b))
