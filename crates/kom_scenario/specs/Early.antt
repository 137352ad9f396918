-- Moments up to a bound.
use Rattle.std.specs.Prelude.{ℕ, ◌≤◌, List}
use Rattle.kom_scengram.specs.declared.parts.Moment.{Moment}
use Rattle.kom_scenario.specs.Sound.{Span, moment_of, span_at}

abbrev pub Early : ℕ → List Span → Type 0
Early bound spans = (m : Moment) (k : ℕ) → moment_of m (span_at spans k) ≤ bound
