-- The first of the rules that is broken, one rule after another.
use Rattle.std.proofs.Common.{◌≡◌, ℕ, zero, suc, ◌+◌, ◌-◌, ◌<◌, ◌≤◌, Bool, true, false, ◌&&◌, ◌==◌, List, [], ◌∷◌, length, drop, slice_get, Some, None, refl, sym, ap, ◌∙◌, arith}
use Rattle.std.specs.Option.{option_map_or}
use Rattle.std.proofs.lemmas.List.{drop_all}
use Rattle.std.proofs.lemmas.Bool.{eqb-true, both_ways}
use Rattle.kom_system.specs.declared.parts.Parts.{Parts}
use Rattle.kom_rules.specs.Names.{first_place}
use Rattle.kom_rules.specs.Broken.{Rule, broken_or, first_broken, broken_rule, file_rules, places_by}

abbrev number_at : List Rule → ℕ → ℕ
number_at rules i = option_map_or (λ r. r.number) (slice_get rules i) 0

-- a rule that is kept
kept : (rules : List Rule) (P : Parts) (i : ℕ) → i < length rules → None ≡ first_place (option_map_or (λ r. r.places P) (slice_get rules i) []) → first_broken (drop i rules) P ≡ first_broken (drop (suc i) rules) P
kept [] P i h e = absurd (omega arith)
kept (r ∷ rules) P zero h e = ap (λ o. broken_or r.number o (first_broken rules P)) (sym e)
kept (r ∷ rules) P (suc i) h e = kept rules P i (omega arith) e

-- a rule that is broken
broken : (rules : List Rule) (P : Parts) (i a : ℕ) → i < length rules → Some a ≡ first_place (option_map_or (λ r. r.places P) (slice_get rules i) []) → first_broken (drop i rules) P ≡ Some (record { number = number_at rules i; at = a })
broken [] P i a h e = absurd (omega arith)
broken (r ∷ rules) P zero a h e = ap (λ o. broken_or r.number o (first_broken rules P)) (sym e)
broken (r ∷ rules) P (suc i) a h e = broken rules P i a (omega arith) e

-- the numbers of the rules
abbrev are_numbered : ℕ → List Rule → Bool
are_numbered n [] = true
are_numbered n (r ∷ rules) = (r.number == n) && are_numbered (suc n) rules

both_true : (a b : Bool) → a && b ≡ true → (a ≡ true) × (b ≡ true)
both_true true b e = (refl, e)
both_true false b e = absurd (both_ways false refl e)

numbered : (n : ℕ) (rules : List Rule) (i : ℕ) → i < length rules → are_numbered n rules ≡ true → number_at rules i ≡ n + i
numbered n [] i h e = absurd (omega arith)
numbered n (r ∷ rules) zero h e = let f : r.number ≡ n = eqb-true r.number n (both_true (r.number == n) (are_numbered (suc n) rules) e).0 in omega arith
numbered n (r ∷ rules) (suc i) h e = let f : number_at rules i ≡ suc n + i = numbered (suc n) rules i (omega arith) (both_true (r.number == n) (are_numbered (suc n) rules) e).1 in omega arith

-- ---- the rules of a file

pub kept_next : (P : Parts) (number : ℕ) → 6 ≤ number → number < 33 → None ≡ first_place (places_by number P) → broken_rule P ≡ first_broken (drop (number - 6) file_rules) P → broken_rule P ≡ first_broken (drop ((number + 1) - 6) file_rules) P
kept_next P number low high e was =
    let inside : number - 6 < length file_rules = omega arith in
    let next : suc (number - 6) ≡ (number + 1) - 6 = omega arith in
    was ∙ kept file_rules P (number - 6) inside e ∙ ap (λ i. first_broken (drop i file_rules) P) next

pub broken_here : (P : Parts) (number a : ℕ) → 6 ≤ number → number < 33 → Some a ≡ first_place (places_by number P) → broken_rule P ≡ first_broken (drop (number - 6) file_rules) P → Some (record { number = number; at = a }) ≡ broken_rule P
broken_here P number a low high e was =
    let inside : number - 6 < length file_rules = omega arith in
    let same : number_at file_rules (number - 6) ≡ number = let n : number_at file_rules (number - 6) ≡ 6 + (number - 6) = numbered 6 file_rules (number - 6) inside refl in omega arith in
    sym (was ∙ broken file_rules P (number - 6) a inside e ∙ ap (λ (n : ℕ). Some (record { number = n; at = a })) same)

pub all_kept : (P : Parts) (number : ℕ) → 33 ≤ number → broken_rule P ≡ first_broken (drop (number - 6) file_rules) P → None ≡ broken_rule P
all_kept P number high was = let past : length file_rules ≤ number - 6 = omega arith in sym (was ∙ ap (λ rules. first_broken rules P) (drop_all (number - 6) file_rules past))
