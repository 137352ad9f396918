-- What is drawn, word by word: each draw leaves the generator for the next.
use Rattle.std.specs.Prelude.{◌≡◌, ℤ, pos, ℕ, zero, suc, ◌+◌, ◌-◌, ◌%◌, List, [], ◌∷◌, ◌++◌}
use Rattle.rand_pcg.specs.Lcg.{Lcg}
use Rattle.rand_pcg.specs.Pcg.{pcg32}
use Rattle.kom_record.specs.declared.plan.Raise.{Raise}
use Rattle.kom_scenario.specs.declared.tree.Arg.{Arg}
use Rattle.kom_scenario.specs.declared.tree.Arg.TheVariants as arg
use Rattle.kom_scenario.specs.declared.tree.Raising.{Raising}
use Rattle.kom_scenario.specs.declared.tree.Source.{Source}
use Rattle.kom_scenario.specs.declared.tree.Source.TheVariants as source
use Rattle.kom_scenario.specs.Sound.{Span, started}

-- a number from low to high by the next word, which is used up even where there is one number
abbrev pub drawn : ℕ → ℕ → Lcg → ℕ × Lcg
drawn low high g = (low + (pcg32 g).0 % (high - low + 1), (pcg32 g).1)

-- the value of an argument in the event of a number
abbrev pub value_of : ℕ → Arg → Lcg → ℤ × Lcg
value_of index (arg.Number i) g = (i, g)
value_of index arg.Index g = (pos index, g)
value_of index (arg.Draw low high) g = (pos (drawn low high g).0, (drawn low high g).1)

-- one after another, from left to right
unfoldable pub values_of : ℕ → List Arg → Lcg → List ℤ × Lcg
values_of index [] g = ([], g)
values_of index (x ∷ xs) g = ((value_of index x g).0 ∷ (values_of index xs (value_of index x g).1).0, (values_of index xs (value_of index x g).1).1)

-- the event of a number, at a time
abbrev pub event_at : Raising → ℕ → ℕ → Lcg → Raise × Lcg
event_at r index time g =
    (record { time = time; chan = r.port; event = record { kind = r.kind; values = (values_of index r.args g).0 } }, (values_of index r.args g).1)

-- events, the time of the last of them, and the generator after them
pub record Run : Type 0 where
  pub events : List Raise
  pub last : ℕ
  pub generator : Lcg

abbrev pub then_run : Raise → Run → Run
then_run e r = record { events = e ∷ r.events; last = r.last; generator = r.generator }

-- n more events from the one of a number on: for each the gap to the one before it is drawn, and
-- then its arguments
unfoldable pub later_events : (low high : ℕ) → Raising → (n index time : ℕ) → Lcg → Run
later_events low high r zero index time g = record { events = []; last = time; generator = g }
later_events low high r (suc n) index time g =
    let gap = drawn low high g in
    let event = event_at r index (time + gap.0) gap.1 in
    then_run event.0 (later_events low high r n (suc index) (time + gap.0) event.1)

-- all events of a source that starts at a time
abbrev pub run_from : (low high : ℕ) → Raising → (count time : ℕ) → Lcg → Run
run_from low high r count time g =
    let event = event_at r 0 time g in
    then_run event.0 (later_events low high r (count - 1) 1 time event.1)

abbrev pub run_of : Source → ℕ → Lcg → Run
run_of (source.At t r) time g = run_from 0 0 r 1 time g
run_of (source.Process p) time g = run_from p.low p.high p.raising p.count time g

-- when a source starts, by the moments of the sources before it
abbrev pub start_of : List Span → Source → ℕ
start_of before (source.At t r) = t
start_of before (source.Process p) = started before p.start

-- the events of all sources, one source after another
unfoldable pub events_from : List Span → List Source → Lcg → List Raise
events_from before [] g = []
events_from before (x ∷ xs) g =
    let run = run_of x (start_of before x) g in
    run.events ++ events_from (before ++ (start_of before x, run.last) ∷ []) xs run.generator

-- a run's events were added behind others
pub record Adds (run : Run) (before after : List Raise) (last : ℕ) (g : Lcg) : Type 0 where
  pub events : after ≡ before ++ run.events
  pub last_is : last ≡ run.last
  pub generator_is : g ≡ run.generator
