use Rattle.std.proofs.Common.{◌≡◌, ◌<◌, ℕ, [], length, slice_index_or, Some}
use Rattle.kom_ancestors.specs.Far.{to}
use Rattle.kom_ancestors.proofs.passed.Steps.none.Given as goal

abbrev pub invariant-loop-kind : goal.invariant-loop-kind
invariant-loop-kind l = record {
  count : length l.to ≡ l.kind;
  leads : (b : ℕ) → b < l.kind → to l.to b ≡ Some b;
  many : length l.names ≡ l.kind;
  none : (b : ℕ) → b < l.kind → slice_index_or l.names b [] ≡ [];
}
