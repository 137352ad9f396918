-- What holds of a tree that breaks no rule, and of its scenario.
use Rattle.std.proofs.Common.{◌≡◌, ℕ, suc, ◌+◌, ◌≤◌, Bool, true, false, List, [], ◌∷◌, ◌++◌, length, map, Option, Some, None, refl, sym, ◌∙◌, ap, arith}
use Rattle.std.specs.Prelude.{nat_lt, nat_le, sum_by}
use Rattle.std.specs.List.{flat_map, list_all}
use Rattle.std.proofs.lemmas.Bool.Decides.{nat_tests}
use Rattle.std.proofs.lemmas.List.Sums.{sum_by-cons}
use Rattle.kom_base.specs.Lists.{either}
use Rattle.kom_system.specs.Contents.{Contents}
use Rattle.kom_scengram.specs.declared.parts.ArgPart.{ArgPart}
use Rattle.kom_scengram.specs.declared.parts.ArgPart.TheVariants as a
use Rattle.kom_scengram.specs.declared.parts.StartPart.{StartPart}
use Rattle.kom_scengram.specs.declared.parts.StartPart.TheVariants as st
use Rattle.kom_scengram.specs.declared.parts.SettingPart.{SettingPart}
use Rattle.kom_scengram.specs.declared.parts.SettingPart.TheVariants as setting
use Rattle.kom_scengram.specs.declared.parts.SourcePart.{SourcePart}
use Rattle.kom_scengram.specs.declared.parts.SourcePart.TheVariants as s
use Rattle.kom_scengram.specs.declared.parts.ScenarioParts.{ScenarioParts}
use Rattle.kom_scenario.specs.declared.settings.Setting.TheVariants as word
use Rattle.kom_scenario.specs.declared.tree.Source.{Source}
use Rattle.kom_scenario.specs.Scenes.{size, set, steps_by, instants_by, lo_by, hi_by, arg_of, start_of, source_of, scene_of}
use Rattle.kom_scenario.specs.Sound.{longest, most, events_of, Span, latest, latest_from, arg_is_sound, start_is_sound, source_is_sound, IsSound}
use Rattle.kom_scenario.specs.Numbers.{too_long, setting_numbers, arg_numbers, start_numbers, source_numbers}
use Rattle.kom_scenario.specs.Rules.{first_place, broken_at, least_broken, first_rules, last_rule, broken, twice, unknown, numbers, misplaced, unmatched, crowded, events_in, late_from}
use Rattle.kom_scenario.proofs.Sizes.{front_none, back_none, short_size, few_size, pair_high, pair_order, set_fine, process_start, process_count, process_gap, process_args}

-- ---- rules one after another

pub nowhere : (xs : List ℕ) → first_place xs ≡ None → xs ≡ []
nowhere [] e = refl
nowhere (x ∷ xs) e = absurd cc

step_none : (rule : ℕ) (o : Option ℕ) (rest : Option (ℕ × ℕ)) → broken_at rule o rest ≡ None → (o ≡ None) × (rest ≡ None)
step_none rule None rest e = (refl, e)
step_none rule (Some at) rest e = absurd cc

pub broken-append : (xs ys : List (ℕ × List ℕ)) → least_broken (xs ++ ys) ≡ either (least_broken xs) (least_broken ys)
broken-append [] ys = refl
broken-append (x ∷ xs) ys = ap (broken_at x.0 (first_place x.1)) (broken-append xs ys) ∙ regroup x.0 (first_place x.1) (least_broken xs) (least_broken ys) where
  regroup : (rule : ℕ) (o : Option ℕ) (p q : Option (ℕ × ℕ)) → broken_at rule o (either p q) ≡ either (broken_at rule o p) q
  regroup rule None p q = refl
  regroup rule (Some at) p q = refl

pub broken_first : (c : Contents) (t : ScenarioParts) (x : ℕ × ℕ) → least_broken (first_rules c t) ≡ Some x → broken c t ≡ Some x
unfolding broken
broken_first c t x e = broken-append (first_rules c t) (last_rule c t ∷ []) ∙ ap (λ o. either o (least_broken (last_rule c t ∷ []))) e

pub broken_last : (c : Contents) (t : ScenarioParts) (o : Option ℕ) → least_broken (first_rules c t) ≡ None → first_place (last_rule c t).1 ≡ o → broken c t ≡ broken_at 12 o None
unfolding broken
broken_last c t o e e' = broken-append (first_rules c t) (last_rule c t ∷ []) ∙ ap (λ p. either p (least_broken (last_rule c t ∷ []))) e ∙ ap (λ p. broken_at 12 p None) e'

pub record Fine (c : Contents) (t : ScenarioParts) : Type 0 where
  pub settings : flat_map setting_numbers t.settings ≡ []
  pub sources : flat_map source_numbers t.sources ≡ []
  pub known : unknown c t ≡ []
  pub placed : misplaced c t ≡ []
  pub matched : unmatched c t ≡ []
  pub few : crowded 0 t.sources ≡ []

pub fine : (c : Contents) (t : ScenarioParts) → least_broken (first_rules c t) ≡ None → Fine c t
unfolding numbers
fine c t e =
    let six = step_none 6 (first_place (twice t)) _ e in
    let seven = step_none 7 (first_place (unknown c t)) _ (six.1) in
    let eight = step_none 8 (first_place (numbers t)) _ (seven.1) in
    let nine = step_none 9 (first_place (misplaced c t)) _ (eight.1) in
    let ten = step_none 10 (first_place (unmatched c t)) _ (nine.1) in
    let eleven = step_none 11 (first_place (crowded 0 t.sources)) _ (ten.1) in
    let all = nowhere (numbers t) (eight.0) in
    record {
      settings = front_none (flat_map setting_numbers t.settings) (flat_map source_numbers t.sources) all;
      sources = back_none (flat_map setting_numbers t.settings) (flat_map source_numbers t.sources) all;
      known = nowhere (unknown c t) (seven.0);
      placed = nowhere (misplaced c t) (nine.0);
      matched = nowhere (unmatched c t) (ten.0);
      few = nowhere (crowded 0 t.sources) (eleven.0);
    }

either_none : (o p : Option (ℕ × ℕ)) → either o p ≡ None → (o ≡ None) × (p ≡ None)
either_none None p e = (refl, e)
either_none (Some x) p e = absurd cc

pub broken_none : (c : Contents) (t : ScenarioParts) → broken c t ≡ None → (least_broken (first_rules c t) ≡ None) × (late_from [] t.sources (map (source_of c t.sources) t.sources) ≡ [])
unfolding broken
broken_none c t e =
    let k = either_none (least_broken (first_rules c t)) (least_broken (last_rule c t ∷ [])) (sym (broken-append (first_rules c t) (last_rule c t ∷ [])) ∙ e) in
    (k.0, nowhere _ (step_none 12 (first_place (last_rule c t).1) None (k.1)).0)

-- ---- sound numbers

at_most : (n m : ℕ) → n ≤ m → nat_le n m ≡ true
at_most n m less = grind (arith, nat_tests)

arg_sound : (x : ArgPart) → arg_numbers x ≡ [] → arg_is_sound (arg_of x) ≡ true
arg_sound (a.Number i) e = refl
arg_sound a.Index e = refl
arg_sound (a.Draw low high) e =
    rw (at_most (size low) (size high) (pair_order low high e), at_most (size high) longest (short_size high (pair_high low high e))) refl

args_sound : (xs : List ArgPart) → flat_map arg_numbers xs ≡ [] → list_all arg_is_sound (map arg_of xs) ≡ true
args_sound [] e = refl
args_sound (x ∷ xs) e = rw (arg_sound x (front_none (arg_numbers x) (flat_map arg_numbers xs) e), args_sound xs (back_none (arg_numbers x) (flat_map arg_numbers xs) e)) refl

module _ (c : Contents) (all : List SourcePart) where
  start_sound : (x : StartPart) → start_numbers x ≡ [] → start_is_sound (start_of c all x) ≡ true
  start_sound (st.At n) e = at_most (size n) longest (short_size n e)
  start_sound (st.After m n by) e = at_most (size by) longest (short_size by e)

  source_sound : (x : SourcePart) → source_numbers x ≡ [] → source_is_sound (source_of c all x) ≡ true
  source_sound (s.At at n r) e =
      rw (at_most (size n) longest (short_size n (front_none (too_long n) (flat_map arg_numbers r.args) e)), args_sound r.args (back_none (too_long n) (flat_map arg_numbers r.args) e)) refl
  source_sound (s.Process p) e =
      let count = few_size p.count (process_count p e) in
      let gap = process_gap p e in
      rw (
        start_sound p.start (process_start p e),
        at_most 1 (size p.count) (count.0),
        at_most (size p.count) most (count.1),
        at_most (size p.low) (size p.high) (pair_order p.low p.high gap),
        at_most (size p.high) longest (short_size p.high (pair_high p.low p.high gap)),
        args_sound p.raise.args (process_args p e),
      ) refl

  pub sources_sound : (xs : List SourcePart) → flat_map source_numbers xs ≡ [] → list_all source_is_sound (map (source_of c all) xs) ≡ true
  sources_sound [] e = refl
  sources_sound (x ∷ xs) e =
      rw (source_sound x (front_none (source_numbers x) (flat_map source_numbers xs) e), sources_sound xs (back_none (source_numbers x) (flat_map source_numbers xs) e)) refl

  -- ---- so many events

  same_events : (x : SourcePart) → events_of (source_of c all x) ≡ events_in x
  same_events (s.At at n r) = refl
  same_events (s.Process p) = refl

  few_events : (n : ℕ) (xs : List SourcePart) → n ≤ most → crowded n xs ≡ [] → n + sum_by events_of (map (source_of c all) xs) ≤ most
  unfolding crowded
  few_events n [] less e = omega (arith, less)
  few_events n (x ∷ xs) less e = by_case (nat_lt most (n + events_in x)) refl (λ less' e'. few_events (n + events_in x) xs less' e') where
    by_case : (b : Bool) → nat_lt most (n + events_in x) ≡ b → (n + events_in x ≤ most → crowded (n + events_in x) xs ≡ [] → (n + events_in x) + sum_by events_of (map (source_of c all) xs) ≤ most)
        → n + sum_by events_of (map (source_of c all) (x ∷ xs)) ≤ most
    by_case true h ih = absurd (let e' = rw h at e in cc)
    by_case false h ih =
        let here : n + events_in x ≤ most = grind (arith, nat_tests) in
        let rest = ih here (rw h at e) in
        omega (arith, rest, same_events x, sum_by-cons events_of (source_of c all x) (map (source_of c all) xs))

-- ---- not too late

pub length_map : {A B : Type 0} (f : A → B) (xs : List A) → length (map f xs) ≡ length xs
length_map f [] = refl
length_map f (x ∷ xs) = ap suc (length_map f xs)

none_late : (before : List Span) (xs : List SourcePart) (zs : List Source) → length xs ≡ length zs → late_from before xs zs ≡ [] → list_all (λ x. nat_le x.1 longest) (latest_from before zs) ≡ true
unfolding late_from
none_late before xs [] same e = refl
none_late before [] (z ∷ zs) same e = absurd (omega (arith, same))
none_late before (x ∷ xs) (z ∷ zs) same e = by_case (nat_lt longest (latest before z).1) refl (λ e'. none_late (before ++ latest before z ∷ []) xs zs (omega (arith, same)) e') where
  by_case : (b : Bool) → nat_lt longest (latest before z).1 ≡ b
      → (late_from (before ++ latest before z ∷ []) xs zs ≡ [] → list_all (λ x. nat_le x.1 longest) (latest_from (before ++ latest before z ∷ []) zs) ≡ true)
      → list_all (λ x. nat_le x.1 longest) (latest_from before (z ∷ zs)) ≡ true
  by_case true h ih = absurd (let e' = rw h at e in cc)
  by_case false h ih =
      let less : (latest before z).1 ≤ longest = grind (arith, nat_tests) in
      rw (at_most (latest before z).1 longest less, ih (rw h at e)) refl

-- ---- settings

steps_sound : (o : Option SettingPart) → ((p : SettingPart) → o ≡ Some p → setting_numbers p ≡ []) → (1 ≤ steps_by o) × (steps_by o ≤ most)
steps_sound None f = (omega arith, omega arith)
steps_sound (Some (setting.Seed at n)) f = (omega arith, omega arith)
steps_sound (Some (setting.Steps at n)) f = few_size n (f (setting.Steps at n) refl)
steps_sound (Some (setting.Instants at n)) f = (omega arith, omega arith)
steps_sound (Some (setting.Network at n m)) f = (omega arith, omega arith)

instants_sound : (o : Option SettingPart) → ((p : SettingPart) → o ≡ Some p → setting_numbers p ≡ []) → (1 ≤ instants_by o) × (instants_by o ≤ most)
instants_sound None f = (omega arith, omega arith)
instants_sound (Some (setting.Seed at n)) f = (omega arith, omega arith)
instants_sound (Some (setting.Steps at n)) f = (omega arith, omega arith)
instants_sound (Some (setting.Instants at n)) f = few_size n (f (setting.Instants at n) refl)
instants_sound (Some (setting.Network at n m)) f = (omega arith, omega arith)

delays_sound : (o : Option SettingPart) → ((p : SettingPart) → o ≡ Some p → setting_numbers p ≡ []) → (lo_by o ≤ hi_by o) × (hi_by o ≤ longest)
delays_sound None f = (omega arith, omega arith)
delays_sound (Some (setting.Seed at n)) f = (omega arith, omega arith)
delays_sound (Some (setting.Steps at n)) f = (omega arith, omega arith)
delays_sound (Some (setting.Instants at n)) f = (omega arith, omega arith)
delays_sound (Some (setting.Network at n m)) f =
    let e = f (setting.Network at n m) refl in (pair_order n m e, short_size m (pair_high n m e))

pub sound : (c : Contents) (t : ScenarioParts) → broken c t ≡ None → IsSound (scene_of c t)
sound c t e =
    let k = broken_none c t e in
    let f = fine c t (k.0) in
    let steps = steps_sound (set t.settings word.Steps) (λ p e. set_fine t.settings word.Steps p f.settings e) in
    let instants = instants_sound (set t.settings word.Instants) (λ p e. set_fine t.settings word.Instants p f.settings e) in
    let delays = delays_sound (set t.settings word.Network) (λ p e. set_fine t.settings word.Network p f.settings e) in
    record {
      some_step = steps.0;
      steps = steps.1;
      some_instant = instants.0;
      instants = instants.1;
      delays = delays.0;
      longest_delay = delays.1;
      sources = sources_sound c t.sources t.sources f.sources;
      events = (let n = few_events c t.sources 0 t.sources (omega arith) f.few in omega (arith, n));
      times = none_late [] t.sources (map (source_of c t.sources) t.sources) (sym (length_map (source_of c t.sources) t.sources)) (k.1);
    }
