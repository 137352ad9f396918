use Rattle.std.proofs.Common.{◌≡◌, ◌<◌, ◌+◌, ℕ, [], length, min, slice_index_or, sum_by}
use Rattle.kom_containers.proofs.sizes.one_level_larger.Given as goal

abbrev pub invariant-loop-k : goal.invariant-loop-k
invariant-loop-k l = record {
  count : length l.table ≡ l.k;
  each : (k : ℕ) → k < l.k → slice_index_or l.table k 0 ≡ min (slice_index_or l.own k 0 + sum_by (λ c. slice_index_or l.totals c 0) (slice_index_or l.children k [])) 1001;
}
