-- An expansion fits each system that its scenario is one of.
use Rattle.std.proofs.Common.{◌≡◌, ℕ, zero, suc, ◌+◌, ◌*◌, ◌-◌, ◌%◌, ◌<◌, ◌≤◌, Bool, true, List, [], ◌∷◌, ◌++◌, length, refl, sym, ◌∙◌, ap, arith, length-append}
use Rattle.std.specs.Prelude.{nat_le, nat_lt, sum_by}
use Rattle.std.specs.List.{list_all}
use Rattle.std.specs.List.Sorted.{IsPermutation}
use Rattle.std.proofs.lemmas.List.Sorted.{length_permutation}
use Rattle.std.proofs.lemmas.List.Sums.{sum_by-cons}
use Rattle.std.proofs.lemmas.Bool.Decides.{nat_tests}
use Rattle.rand_pcg.specs.Lcg.{Lcg}
use Rattle.rand_pcg.specs.Pcg.{pcg32}
use Rattle.kom_lang.specs.Declarations.{Declarations}
use Rattle.kom_record.specs.declared.plan.Plan.{Plan}
use Rattle.kom_record.specs.declared.plan.Raise.{Raise}
use Rattle.kom_record.specs.Plans.{comes_in_at, PlanFits}
use Rattle.kom_system.specs.Contents.{Contents}
use Rattle.kom_system.specs.WellFormed.{IsWellFormed}
use Rattle.kom_scenario.specs.declared.tree.Arg.{Arg}
use Rattle.kom_scenario.specs.declared.tree.Raising.{Raising}
use Rattle.kom_scenario.specs.declared.tree.Process.{Process}
use Rattle.kom_scenario.specs.declared.tree.Source.{Source}
use Rattle.kom_scenario.specs.declared.tree.Source.TheVariants as source
use Rattle.kom_scenario.specs.declared.tree.Scene.{Scene}
use Rattle.kom_scenario.specs.Sound.{longest, most, Span, events_of, source_is_sound, start_is_sound, IsSound}
use Rattle.kom_scenario.specs.Early.{Early}
use Rattle.kom_scenario.specs.Placed.{raising_of, raising_fits}
use Rattle.kom_scenario.specs.Answers.{IsScenario}
use Rattle.kom_scenario.proofs.Lateness.{early_none}
use Rattle.kom_scenario.proofs.Placing.{placed}
use Rattle.kom_expand.specs.Drawn.{drawn, value_of, values_of, event_at, later_events, run_from, run_of, start_of, events_from}
use Rattle.kom_expand.specs.Expansion.{generator_of, events_of as all_events, InTime, IsExpansion}
use Rattle.kom_expand.proofs.Onward.{both, start_soon, some_event, next_early}
use Rattle.kom_expand.proofs.Sorting.{all_moved}

at_most : (n m : ℕ) → n ≤ m → nat_le n m ≡ true
at_most n m less = grind (arith, nat_tests)

below : (n m : ℕ) → nat_le n m ≡ true → n ≤ m
below n m e = grind (arith, nat_tests)

all-append : {A : Type 0} (test : A → Bool) (xs ys : List A) → list_all test xs ≡ true → list_all test ys ≡ true → list_all test (xs ++ ys) ≡ true
all-append test [] ys e f = f
all-append test (x ∷ xs) ys e f = let k = both (test x) (list_all test xs) e in rw (k.0, all-append test xs ys (k.1) f) refl

-- ---- how many events

later_count : (low high : ℕ) (r : Raising) (n index time : ℕ) (g : Lcg) → length (later_events low high r n index time g).events ≡ n
unfolding later_events
later_count low high r zero index time g = refl
later_count low high r (suc n) index time g = ap suc (later_count low high r n (suc index) (time + (drawn low high g).0) (event_at r index (time + (drawn low high g).0) (drawn low high g).1).1)

run_count : (x : Source) (time : ℕ) (g : Lcg) → source_is_sound x ≡ true → length (run_of x time g).events ≡ events_of x
run_count (source.At t r) time g s = ap suc (later_count 0 0 r 0 1 time (event_at r 0 time g).1)
run_count (source.Process p) time g s =
    let n = later_count p.low p.high p.raising (p.count - 1) 1 time (event_at p.raising 0 time g).1 in
    let some = some_event (source.Process p) s in
    omega (arith, n, some)

events_count : (spans : List Span) (xs : List Source) (g : Lcg) → list_all source_is_sound xs ≡ true → length (events_from spans xs g) ≡ sum_by events_of xs
unfolding events_from
events_count spans [] g s = refl
events_count spans (x ∷ xs) g s =
    let k = both (source_is_sound x) (list_all source_is_sound xs) s in
    let run = run_of x (start_of spans x) g in
    let one = run_count x (start_of spans x) g (k.0) in
    let rest = events_count (spans ++ (start_of spans x, run.last) ∷ []) xs run.generator (k.1) in
    omega (arith, length-append run.events (events_from (spans ++ (start_of spans x, run.last) ∷ []) xs run.generator), one, rest, sum_by-cons events_of x xs)

-- ---- when they are

drawn_most : (low high : ℕ) (g : Lcg) → low ≤ high → (drawn low high g).0 ≤ high
drawn_most low high g up = let some : 0 < high - low + 1 = omega arith in let less : (pcg32 g).0 % (high - low + 1) < high - low + 1 = omega arith in omega (arith, less, up)

later_last : (low high : ℕ) (r : Raising) (n index time : ℕ) (g : Lcg) → low ≤ high → high ≤ longest → (later_events low high r n index time g).last ≤ time + longest * n
unfolding later_events
later_last low high r zero index time g up most = omega arith
later_last low high r (suc n) index time g up most =
    let gap = drawn_most low high g up in
    let rest = later_last low high r n (suc index) (time + (drawn low high g).0) (event_at r index (time + (drawn low high g).0) (drawn low high g).1).1 up most in
    omega (arith, gap, rest, most)

is_early : ℕ → Raise → Bool
is_early bound r = nat_le r.time bound

later_early : (bound low high : ℕ) (r : Raising) (n index time : ℕ) (g : Lcg) → low ≤ high → high ≤ longest → time + longest * n ≤ bound → list_all (is_early bound) (later_events low high r n index time g).events ≡ true
unfolding later_events is_early
later_early bound low high r zero index time g up most less = refl
later_early bound low high r (suc n) index time g up most less =
    let gap = drawn_most low high g up in
    let next = time + (drawn low high g).0 in
    let here : next ≤ bound = omega (arith, gap, less, most) in
    let rest = later_early bound low high r n (suc index) next (event_at r index next (drawn low high g).1).1 up most (omega (arith, gap, less, most)) in
    rw (at_most next bound here, rest) refl

run_early : (bound low high : ℕ) (r : Raising) (count time : ℕ) (g : Lcg) → low ≤ high → high ≤ longest → time + longest * (count - 1) ≤ bound → list_all (is_early bound) (run_from low high r count time g).events ≡ true
unfolding is_early
run_early bound low high r count time g up most less =
    rw (at_most time bound (omega (arith, less)), later_early bound low high r (count - 1) 1 time (event_at r 0 time g).1 up most less) refl

-- the gaps of a process
gaps : (p : Process) → source_is_sound (source.Process p) ≡ true → (p.low ≤ p.high) × (p.high ≤ longest)
gaps p s =
    let k = both (nat_le p.low p.high) (nat_le p.high longest) ((both _ _ ((both _ _ ((both (start_is_sound p.start) _ s).1)).1)).0) in
    (below p.low p.high (k.0), below p.high longest (k.1))

source_early : (bound : ℕ) (x : Source) (time : ℕ) (g : Lcg) → source_is_sound x ≡ true → time + longest * (events_of x - 1) ≤ bound → list_all (is_early bound) (run_of x time g).events ≡ true
source_early bound (source.At t r) time g s less = run_early bound 0 0 r 1 time g (omega arith) (omega arith) less
source_early bound (source.Process p) time g s less = let k = gaps p s in run_early bound p.low p.high p.raising p.count time g (k.0) (k.1) less

source_last : (x : Source) (time : ℕ) (g : Lcg) → source_is_sound x ≡ true → (run_of x time g).last ≤ time + longest * (events_of x - 1)
source_last (source.At t r) time g s = later_last 0 0 r 0 1 time (event_at r 0 time g).1 (omega arith) (omega arith)
source_last (source.Process p) time g s = let k = gaps p s in later_last p.low p.high p.raising (p.count - 1) 1 time (event_at p.raising 0 time g).1 (k.0) (k.1)

events_early : (bound n : ℕ) (spans : List Span) (xs : List Source) (g : Lcg) → Early (longest * n) spans → list_all source_is_sound xs ≡ true → longest * (n + sum_by events_of xs) ≤ bound
    → list_all (is_early bound) (events_from spans xs g) ≡ true
unfolding events_from
events_early bound n spans [] g e s less = refl
events_early bound n spans (x ∷ xs) g e s less =
    let k = both (source_is_sound x) (list_all source_is_sound xs) s in
    let start = start_of spans x in
    let run = run_of x start g in
    let total = sum_by-cons events_of x xs in
    let some = some_event x (k.0) in
    let begun = start_soon (longest * n) spans x e (k.0) in
    let last = source_last x start g (k.0) in
    let here = source_early bound x start g (k.0) (omega (arith, begun, some, total, less)) in
    let next = next_early n spans x (start, run.last) e (k.0) refl (omega (arith, last, some)) in
    all-append (is_early bound) run.events _ here
    (events_early bound (n + events_of x) (spans ++ (start, run.last) ∷ []) xs run.generator next (k.1) (omega (arith, total, less)))

-- ---- where they come in

values_count : (index : ℕ) (args : List Arg) (g : Lcg) → length (values_of index args g).0 ≡ length args
unfolding values_of
values_count index [] g = refl
values_count index (x ∷ xs) g = ap suc (values_count index xs (value_of index x g).1)

module _ (S : Declarations) where
  comes : Raise → Bool
  comes r = comes_in_at S r.chan r.event

  event_comes : (r : Raising) (index time : ℕ) (g : Lcg) → raising_fits S r ≡ true → comes (event_at r index time g).0 ≡ true
  unfolding comes comes_in_at
  event_comes r index time g fits = rw (values_count index r.args g) fits

  later_come : (low high : ℕ) (r : Raising) (n index time : ℕ) (g : Lcg) → raising_fits S r ≡ true → list_all comes (later_events low high r n index time g).events ≡ true
  unfolding later_events
  later_come low high r zero index time g fits = refl
  later_come low high r (suc n) index time g fits =
      let next = time + (drawn low high g).0 in
      rw (event_comes r index next (drawn low high g).1 fits, later_come low high r n (suc index) next (event_at r index next (drawn low high g).1).1 fits) refl

  run_comes : (low high : ℕ) (r : Raising) (count time : ℕ) (g : Lcg) → raising_fits S r ≡ true → list_all comes (run_from low high r count time g).events ≡ true
  run_comes low high r count time g fits = rw (event_comes r 0 time g fits, later_come low high r (count - 1) 1 time (event_at r 0 time g).1 fits) refl

  source_comes : (x : Source) (time : ℕ) (g : Lcg) → raising_fits S (raising_of x) ≡ true → list_all comes (run_of x time g).events ≡ true
  source_comes (source.At t r) time g fits = run_comes 0 0 r 1 time g fits
  source_comes (source.Process p) time g fits = run_comes p.low p.high p.raising p.count time g fits

  events_come : (spans : List Span) (xs : List Source) (g : Lcg) → list_all (λ x. raising_fits S (raising_of x)) xs ≡ true → list_all comes (events_from spans xs g) ≡ true
  unfolding events_from
  events_come spans [] g fits = refl
  events_come spans (x ∷ xs) g fits =
      let k = both (raising_fits S (raising_of x)) (list_all (λ x. raising_fits S (raising_of x)) xs) fits in
      let run = run_of x (start_of spans x) g in
      all-append comes run.events _ (source_comes x (start_of spans x) g (k.0)) (events_come (spans ++ (start_of spans x, run.last) ∷ []) xs run.generator (k.1))

-- ---- the plan

early_enough : (xs : List Raise) → list_all (is_early (longest * most)) xs ≡ true → list_all (λ r. nat_lt r.time 4_611_686_018_427_387_905) xs ≡ true
unfolding is_early
early_enough [] e = refl
early_enough (x ∷ xs) e =
    let k = both (nat_le x.time (longest * most)) _ e in
    let less = below x.time (longest * most) (k.0) in
    let test : nat_lt x.time 4_611_686_018_427_387_905 ≡ true = before x.time 4_611_686_018_427_387_905 (omega (arith, less)) in
    rw (test, early_enough xs (k.1)) refl where
      before : (n m : ℕ) → n < m → nat_lt n m ≡ true
      before n m less = grind (arith, nat_tests)

pub plan_fits : (c : Contents) (text : List ℕ) (z : Scene) (plan : Plan) → IsWellFormed c → IsScenario c text z → IsSound z → IsExpansion z plan → IsPermutation (all_events z) plan.raises → PlanFits c.declarations plan
unfolding all_events comes
plan_fits c text z plan w d sound e moved =
    let count = events_count [] z.sources (generator_of z.seed) sound.sources in
    let same = length_permutation (all_events z) plan.raises moved in
    let early = events_early (longest * most) 0 [] z.sources (generator_of z.seed) (early_none (longest * 0)) sound.sources (let few = sound.events in omega (arith, few)) in
    let come = events_come c.declarations [] z.sources (generator_of z.seed) (placed c w text z d) in
    let fits : PlanFits c.declarations plan = record {
      some_step = rw e.steps sound.some_step;
      steps = rw e.steps sound.steps;
      some_instant = rw e.instants sound.some_instant;
      instants = rw e.instants sound.instants;
      pair = rw (e.lo, e.hi) sound.delays;
      greatest = rw e.hi sound.longest_delay;
      raises = (let few = sound.events in omega (arith, same, count, few));
      in_order = e.raises.rising;
      times = sym (all_moved (λ r. nat_lt r.time 4_611_686_018_427_387_905) (all_events z) plan.raises moved) ∙ early_enough (all_events z) early;
      come_in = sym (all_moved (comes c.declarations) (all_events z) plan.raises moved) ∙ come;
    } in
    fits

-- ---- what `expand` makes

abbrev pub plan_of : Scene → List Raise → Plan
plan_of z raises = record { seed = z.seed; steps = z.steps; instants = z.instants; lo = z.lo; hi = z.hi; raises = raises }

pub made : (z : Scene) (events raises raises' : List Raise) (xs : List Source) → events ≡ events_from [] xs (generator_of z.seed) → xs ≡ z.sources → InTime events raises → raises' ≡ raises → IsExpansion z (plan_of z raises')
unfolding all_events
made z events raises raises' xs e same sorted is =
    let all : events ≡ events_from [] z.sources (generator_of z.seed) = e ∙ ap (λ xs. events_from [] xs (generator_of z.seed)) same in
    record { seed = refl; steps = refl; instants = refl; lo = refl; hi = refl; raises = rw is (rw all at sorted) }

pub moved_all : (z : Scene) (events raises raises' : List Raise) (xs : List Source) → events ≡ events_from [] xs (generator_of z.seed) → xs ≡ z.sources → IsPermutation events raises → raises' ≡ raises → IsPermutation (all_events z) raises'
unfolding all_events
moved_all z events raises raises' xs e same moved is =
    let all : events ≡ events_from [] z.sources (generator_of z.seed) = e ∙ ap (λ xs. events_from [] xs (generator_of z.seed)) same in
    rw is (rw all at moved)
