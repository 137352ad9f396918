use Rattle.std.proofs.Common.{◌≡◌, ◌<◌, ℕ, length, [], slice_index_or}
use Rattle.kom_events.specs.Kin.{ancestors}
use Rattle.kom_events.proofs.event_types.EventTypes.build.Given as goal

abbrev pub invariant-loop-a : goal.invariant-loop-a
invariant-loop-a l = record {
  count : length l.ancestors ≡ l.a;
  lists : (b : ℕ) → b < l.a → slice_index_or l.ancestors b [] ≡ ancestors (length l.rows) l.rows b;
}
