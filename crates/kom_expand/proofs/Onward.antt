-- The events of one more source.
use Rattle.std.proofs.Common.{◌≡◌, ℕ, zero, suc, ◌+◌, ◌*◌, ◌<◌, ◌≤◌, Bool, true, false, ◌&&◌, List, [], ◌∷◌, ◌++◌, length, drop, refl, sym, ◌∙◌, ap, arith, get_or, append_assoc, append-nil}
use Rattle.std.specs.Prelude.{nat_le}
use Rattle.std.specs.List.{list_all}
use Rattle.std.proofs.Math.Seq.{drop-cons}
use Rattle.std.proofs.lemmas.Bool.Decides.{nat_tests}
use Rattle.rand_pcg.specs.Lcg.{Lcg}
use Rattle.kom_record.specs.declared.plan.Raise.{Raise}
use Rattle.kom_scenario.specs.declared.tree.Start.{Start}
use Rattle.kom_scenario.specs.declared.tree.Start.TheVariants as start
use Rattle.kom_scenario.specs.declared.tree.Source.{Source}
use Rattle.kom_scenario.specs.declared.tree.Source.TheVariants as source
use Rattle.kom_scenario.specs.Sound.{longest, most, Span, started, events_of, arg_is_sound, start_is_sound, source_is_sound}
use Rattle.kom_scenario.specs.Early.{Early}
use Rattle.kom_scenario.proofs.Lateness.{early_onto}
use Rattle.kom_expand.specs.Drawn.{run_of, start_of, events_from, Adds}

pub both : (a b : Bool) → (a && b) ≡ true → (a ≡ true) × (b ≡ true)
both true true e = (refl, refl)
both true false e = absurd cc
both false b e = absurd cc

pub all_at : {A : Type 0} (test : A → Bool) (xs : List A) (i : ℕ) (x : A) → list_all test xs ≡ true → i < length xs → x ≡ get_or xs i x → test x ≡ true
all_at test [] i x e less is = absurd (omega (arith, less))
all_at test (y ∷ ys) zero x e less is = ap test is ∙ (both (test y) (list_all test ys) e).0
all_at test (y ∷ ys) (suc i) x e less is = all_at test ys i x ((both (test y) (list_all test ys) e).1) (omega (arith, less)) is

below : (n m : ℕ) → nat_le n m ≡ true → n ≤ m
below n m e = grind (arith, nat_tests)

-- ---- when a source starts, and how many events it has

started_soon : (bound : ℕ) (spans : List Span) (x : Start) → Early bound spans → start_is_sound x ≡ true → started spans x ≤ bound + longest
started_soon bound spans (start.At t) e s = let k = below t longest s in omega arith
started_soon bound spans (start.After m k by) e s = let less = below by longest s in omega (arith, e m k, less)

pub start_soon : (bound : ℕ) (spans : List Span) (x : Source) → Early bound spans → source_is_sound x ≡ true → start_of spans x ≤ bound + longest
start_soon bound spans (source.At t r) e s = let k = below t longest ((both (nat_le t longest) (list_all arg_is_sound r.args) s).0) in omega arith
start_soon bound spans (source.Process p) e s = started_soon bound spans p.start e ((both (start_is_sound p.start) _ s).0)

pub some_event : (x : Source) → source_is_sound x ≡ true → 1 ≤ events_of x
some_event (source.At t r) s = omega arith
some_event (source.Process p) s = below 1 p.count ((both (nat_le 1 p.count) (nat_le p.count most) ((both _ _ ((both (start_is_sound p.start) _ s).1)).0)).0)

pub next_early : (n : ℕ) (spans : List Span) (x : Source) (span : Span) → Early (longest * n) spans → source_is_sound x ≡ true → span.0 ≡ start_of spans x → span.1 + longest ≤ span.0 + longest * events_of x
    → Early (longest * (n + events_of x)) (spans ++ span ∷ [])
next_early n spans x span e s is soon =
    let begin = start_soon (longest * n) spans x e s in
    let some = some_event x s in
    early_onto (longest * n) (longest * (n + events_of x)) spans span e (omega arith) (omega (arith, begin, is, some)) (omega (arith, begin, is, soon))

-- ---- the events

pub next_events : (spans : List Span) (xs : List Source) (i : ℕ) (x : Source) (g : Lcg) → i < length xs → x ≡ get_or xs i x
    → events_from spans (drop i xs) g
    ≡ (run_of x (start_of spans x) g).events ++ events_from (spans ++ (start_of spans x, (run_of x (start_of spans x) g).last) ∷ []) (drop (suc i) xs) (run_of x (start_of spans x) g).generator
unfolding events_from
next_events spans xs i x g less is = rw (drop-cons xs i x less, sym is) refl

pub events_step : (spans : List Span) (xs : List Source) (i : ℕ) (x : Source) (g : Lcg) (raises raises' all : List Raise) (spans' : List Span) (span : Span) (g' : Lcg) → i < length xs → x ≡ get_or xs i x
    → Adds (run_of x (start_of spans x) g) raises raises' span.1 g' → span.0 ≡ start_of spans x → spans' ≡ spans ++ span ∷ [] → raises ++ events_from spans (drop i xs) g ≡ all
    → raises' ++ events_from spans' (drop (suc i) xs) g' ≡ all
events_step spans xs i x g raises raises' all spans' span g' less is adds begun grown e =
    let run = run_of x (start_of spans x) g in
    let same : span ≡ (start_of spans x, run.last) = pair span (start_of spans x) run.last begun adds.last_is in
    let rest : events_from spans' (drop (suc i) xs) g' ≡ events_from (spans ++ (start_of spans x, run.last) ∷ []) (drop (suc i) xs) run.generator =
    ap (λ s. events_from s (drop (suc i) xs) g') (grown ∙ ap (λ y. spans ++ y ∷ []) same) ∙ ap (events_from (spans ++ (start_of spans x, run.last) ∷ []) (drop (suc i) xs)) adds.generator_is in
    ap (λ r. raises' ++ r) rest ∙ ap (λ r. r ++ events_from (spans ++ (start_of spans x, run.last) ∷ []) (drop (suc i) xs) run.generator) adds.events
    ∙ append_assoc raises run.events _ ∙ ap (λ r. raises ++ r) (sym (next_events spans xs i x g less is)) ∙ e where
      pair : (p : Span) (a b : ℕ) → p.0 ≡ a → p.1 ≡ b → p ≡ (a, b)
      pair (x, y) a b e e' = rw (e, e') refl

drop_end : {A : Type 0} (xs : List A) (i : ℕ) → length xs ≤ i → drop i xs ≡ []
drop_end [] zero less = refl
drop_end [] (suc i) less = refl
drop_end (x ∷ xs) zero less = absurd (omega (arith, less))
drop_end (x ∷ xs) (suc i) less = drop_end xs i (omega (arith, less))

pub events_end : (spans : List Span) (xs : List Source) (i : ℕ) (g : Lcg) (raises all : List Raise) → length xs ≤ i → raises ++ events_from spans (drop i xs) g ≡ all → raises ≡ all
unfolding events_from
events_end spans xs i g raises all less e = sym (append-nil raises) ∙ (rw (drop_end xs i less) at e)
