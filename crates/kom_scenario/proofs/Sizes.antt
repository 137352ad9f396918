-- What holds of numbers that are in their range.
use Rattle.std.proofs.Common.{◌≡◌, ℕ, zero, suc, ◌<◌, ◌≤◌, ◌^◌, Bool, true, false, ◌||◌, List, [], ◌∷◌, ◌++◌, length, Some, refl, sym, ◌∙◌, ap, arith, get_or}
use Rattle.std.specs.Prelude.{nat_lt}
use Rattle.std.specs.List.{flat_map, find}
use Rattle.std.proofs.lemmas.Bool.Decides.{nat_tests}
use Rattle.kom_parse.specs.declared.numeral.Numeral.{Numeral}
use Rattle.kom_scengram.specs.declared.parts.SettingPart.{SettingPart}
use Rattle.kom_scengram.specs.declared.parts.SettingPart.TheVariants as setting
use Rattle.kom_scengram.specs.declared.parts.ProcessPart.{ProcessPart}
use Rattle.kom_scengram.specs.declared.parts.ArgPart.{ArgPart}
use Rattle.kom_scenario.specs.declared.settings.Setting.{Setting}
use Rattle.kom_scenario.specs.Scenes.{size, setting_of, same_setting, set}
use Rattle.kom_scenario.specs.Sound.{longest, most}
use Rattle.kom_scenario.specs.Numbers.{place_if, too_long, not_so_many, no_pair, setting_numbers, arg_numbers, start_numbers, process_numbers}

-- ---- empty lists

pub front_none : {A : Type 0} (xs ys : List A) → xs ++ ys ≡ [] → xs ≡ []
front_none [] ys e = refl
front_none (x ∷ xs) ys e = absurd cc

pub back_none : {A : Type 0} (xs ys : List A) → xs ++ ys ≡ [] → ys ≡ []
back_none [] ys e = e
back_none (x ∷ xs) ys e = absurd cc

pub none_at : {A : Type 0} (f : A → List ℕ) (xs : List A) (i : ℕ) (d : A) → flat_map f xs ≡ [] → i < length xs → f (get_or xs i d) ≡ []
none_at f [] i d e less = absurd (omega (arith, less))
none_at f (x ∷ xs) zero d e less = front_none (f x) (flat_map f xs) e
none_at f (x ∷ xs) (suc i) d e less = none_at f xs i d (back_none (f x) (flat_map f xs) e) (omega (arith, less))

pub none_found : {A : Type 0} (f : A → List ℕ) (test : A → Bool) (xs : List A) (x : A) → flat_map f xs ≡ [] → find test xs ≡ Some x → f x ≡ []
none_found f test [] x e e' = absurd cc
none_found f test (y ∷ ys) x e e' = by_case (test y) refl (none_found f test ys x (back_none (f y) (flat_map f ys) e)) where
  by_case : (b : Bool) → test y ≡ b → (find test ys ≡ Some x → f x ≡ []) → f x ≡ []
  by_case true h ih = let found = rw h at e' in let same : y ≡ x = cc in ap f (sym same) ∙ front_none (f y) (flat_map f ys) e
  by_case false h ih = ih (rw h at e')

pub no_place : (b : Bool) (at : ℕ) → place_if b at ≡ [] → b ≡ false
no_place true at e = absurd cc
no_place false at e = refl

-- ---- numbers

pub short_size : (n : Numeral) → too_long n ≡ [] → size n ≤ longest
short_size n e = let k = no_place (nat_lt longest (size n)) n.at e in grind (arith, nat_tests)

pub short : (n : Numeral) → too_long n ≡ [] → size n < 2 ^ 32
short n e = let k = short_size n e in omega arith

neither : (a b : Bool) → (a || b) ≡ false → (a ≡ false) × (b ≡ false)
neither false false e = (refl, refl)
neither true b e = absurd cc
neither false true e = absurd cc

pub few_size : (n : Numeral) → not_so_many n ≡ [] → (1 ≤ size n) × (size n ≤ most)
few_size n e =
    let k = neither (nat_lt (size n) 1) (nat_lt most (size n)) (no_place (nat_lt (size n) 1 || nat_lt most (size n)) n.at e) in
    let a = k.0 in
    let b = k.1 in
    (grind (arith, nat_tests), grind (arith, nat_tests))

pub few : (n : Numeral) → not_so_many n ≡ [] → size n < 2 ^ 32
few n e = let k = (few_size n e).1 in omega arith

pub pair_low : (low high : Numeral) → no_pair low high ≡ [] → too_long low ≡ []
pair_low low high e = front_none (too_long low) _ e

pub pair_high : (low high : Numeral) → no_pair low high ≡ [] → too_long high ≡ []
pair_high low high e = front_none (too_long high) _ (back_none (too_long low) _ e)

pub pair_order : (low high : Numeral) → no_pair low high ≡ [] → size low ≤ size high
pair_order low high e =
    let k = no_place (nat_lt (size high) (size low)) high.at (back_none (too_long high) _ (back_none (too_long low) _ e)) in grind (arith, nat_tests)

-- ---- settings and sources

pub set_fine : (parts : List SettingPart) (x : Setting) (p : SettingPart) → flat_map setting_numbers parts ≡ [] → set parts x ≡ Some p → setting_numbers p ≡ []
unfolding set
set_fine parts x p e e' = none_found setting_numbers (λ y. same_setting (setting_of y) x) parts p e e'

pub set_steps : (parts : List SettingPart) (x : Setting) (at : ℕ) (n : Numeral) → flat_map setting_numbers parts ≡ [] → set parts x ≡ Some (setting.Steps at n) → not_so_many n ≡ []
set_steps parts x at n e e' = set_fine parts x (setting.Steps at n) e e'

pub set_instants : (parts : List SettingPart) (x : Setting) (at : ℕ) (n : Numeral) → flat_map setting_numbers parts ≡ [] → set parts x ≡ Some (setting.Instants at n) → not_so_many n ≡ []
set_instants parts x at n e e' = set_fine parts x (setting.Instants at n) e e'

pub set_low : (parts : List SettingPart) (x : Setting) (at : ℕ) (n m : Numeral) → flat_map setting_numbers parts ≡ [] → set parts x ≡ Some (setting.Network at n m) → too_long n ≡ []
set_low parts x at n m e e' = pair_low n m (set_fine parts x (setting.Network at n m) e e')

pub set_high : (parts : List SettingPart) (x : Setting) (at : ℕ) (n m : Numeral) → flat_map setting_numbers parts ≡ [] → set parts x ≡ Some (setting.Network at n m) → too_long m ≡ []
set_high parts x at n m e e' = pair_high n m (set_fine parts x (setting.Network at n m) e e')

pub process_start : (p : ProcessPart) → process_numbers p ≡ [] → start_numbers p.start ≡ []
process_start p e = front_none (start_numbers p.start) _ e

pub process_count : (p : ProcessPart) → process_numbers p ≡ [] → not_so_many p.count ≡ []
process_count p e = front_none (not_so_many p.count) _ (back_none (start_numbers p.start) _ e)

pub process_gap : (p : ProcessPart) → process_numbers p ≡ [] → no_pair p.low p.high ≡ []
process_gap p e = front_none (no_pair p.low p.high) _ (back_none (not_so_many p.count) _ (back_none (start_numbers p.start) _ e))

pub process_low : (p : ProcessPart) → process_numbers p ≡ [] → too_long p.low ≡ []
process_low p e = pair_low p.low p.high (process_gap p e)

pub process_high : (p : ProcessPart) → process_numbers p ≡ [] → too_long p.high ≡ []
process_high p e = pair_high p.low p.high (process_gap p e)

pub process_args : (p : ProcessPart) → process_numbers p ≡ [] → flat_map arg_numbers p.raise.args ≡ []
process_args p e = back_none (no_pair p.low p.high) _ (back_none (not_so_many p.count) _ (back_none (start_numbers p.start) _ e))

pub line_args : (n : Numeral) (args : List ArgPart) → too_long n ++ flat_map arg_numbers args ≡ [] → flat_map arg_numbers args ≡ []
line_args n args e = back_none (too_long n) _ e
