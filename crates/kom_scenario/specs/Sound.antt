-- What holds of the numbers of a scenario that breaks no rule.
use Rattle.std.specs.Prelude.{◌≡◌, ℕ, ◌+◌, ◌*◌, ◌-◌, ◌≤◌, Bool, true, ◌&&◌, nat_le, List, [], ◌∷◌, ◌++◌, sum_by, slice_index_or}
use Rattle.std.specs.List.{list_all}
use Rattle.kom_scengram.specs.declared.parts.Moment.{Moment}
use Rattle.kom_scengram.specs.declared.parts.Moment.TheVariants.{Start as Begin, End}
use Rattle.kom_scenario.specs.declared.tree.Arg.{Arg}
use Rattle.kom_scenario.specs.declared.tree.Arg.TheVariants as arg
use Rattle.kom_scenario.specs.declared.tree.Start.{Start}
use Rattle.kom_scenario.specs.declared.tree.Start.TheVariants as start
use Rattle.kom_scenario.specs.declared.tree.Source.{Source}
use Rattle.kom_scenario.specs.declared.tree.Source.TheVariants as source
use Rattle.kom_scenario.specs.declared.tree.Scene.{Scene}

-- the greatest time, distance, gap, delay and drawn number
abbrev pub longest : ℕ
longest = 1_000_000_000

-- the most steps, instants, events of a process and events in all
abbrev pub most : ℕ
most = 100_000

-- ---- how many events, and when at the latest

abbrev pub events_of : Source → ℕ
events_of (source.At time r) = 1
events_of (source.Process p) = p.count

-- two moments of a source: its start, and the time of its last event
abbrev pub Span : Type 0
Span = ℕ × ℕ

abbrev pub moment_of : Moment → Span → ℕ
moment_of Begin x = x.0
moment_of End x = x.1

abbrev pub span_at : List Span → ℕ → Span
span_at spans k = slice_index_or spans k (0, 0)

-- a start, by the moments of the sources before it
abbrev pub started : List Span → Start → ℕ
started before (start.At t) = t
started before (start.After m k by) = moment_of m (span_at before k) + by

-- the latest moments of a source, by those of the sources before it
abbrev pub latest : List Span → Source → Span
latest before (source.At t r) = (t, t)
latest before (source.Process p) = (started before p.start, started before p.start + (p.count - 1) * p.high)

-- those of each source, in order
abbrev pub latest_from : List Span → List Source → List Span
latest_from before [] = []
latest_from before (x ∷ xs) = latest before x ∷ latest_from (before ++ latest before x ∷ []) xs

-- ---- sound scenarios

abbrev pub arg_is_sound : Arg → Bool
arg_is_sound (arg.Number i) = true
arg_is_sound arg.Index = true
arg_is_sound (arg.Draw low high) = nat_le low high && nat_le high longest

abbrev pub start_is_sound : Start → Bool
start_is_sound (start.At t) = nat_le t longest
start_is_sound (start.After m k by) = nat_le by longest

abbrev pub source_is_sound : Source → Bool
source_is_sound (source.At t r) = nat_le t longest && list_all arg_is_sound r.args
source_is_sound (source.Process p) =
    start_is_sound p.start && ((nat_le 1 p.count && nat_le p.count most) && ((nat_le p.low p.high && nat_le p.high longest) && list_all arg_is_sound p.raising.args))

pub record IsSound (z : Scene) : Type 0 where
  pub some_step : 1 ≤ z.steps
  pub steps : z.steps ≤ most
  pub some_instant : 1 ≤ z.instants
  pub instants : z.instants ≤ most
  pub delays : z.lo ≤ z.hi
  pub longest_delay : z.hi ≤ longest
  pub sources : list_all source_is_sound z.sources ≡ true
  pub events : sum_by events_of z.sources ≤ most
  pub times : list_all (λ x. nat_le x.1 longest) (latest_from [] z.sources) ≡ true
