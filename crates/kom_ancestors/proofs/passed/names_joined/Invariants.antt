use Rattle.std.proofs.Common.{◌≡◌, ◌<◌, ◌++◌, ℕ, [], length, take, slice_index_or}
use Rattle.kom_ancestors.specs.Far.{to}
use Rattle.kom_ancestors.specs.Passed.{names_by}
use Rattle.kom_ancestors.proofs.passed.names_joined.Given as goal

abbrev pub invariant-loop-kind : goal.invariant-loop-kind
invariant-loop-kind l = record {
  count : length l.table ≡ l.kind;
  each : (k : ℕ) → k < l.kind → slice_index_or l.table k [] ≡ take 9 (take 9 (names_by l.after (to l.first.to k)) ++ slice_index_or l.first.names k []);
}
