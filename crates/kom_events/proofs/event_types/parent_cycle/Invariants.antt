use Rattle.std.proofs.Common.{◌≡◌, ◌<◌, ℕ, false}
use Rattle.kom_events.specs.Kin.{is_on_cycle}
use Rattle.kom_events.proofs.event_types.parent_cycle.Given as goal

abbrev pub invariant-loop-a : goal.invariant-loop-a
invariant-loop-a l = (b : ℕ) → b < l.a → is_on_cycle l.rows b ≡ false
