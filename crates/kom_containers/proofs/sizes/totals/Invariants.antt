use Rattle.std.proofs.Common.{◌≡◌, ℕ, min, slice_index_or}
use Rattle.kom_containers.specs.Nested.{total_of}
use Rattle.kom_containers.proofs.sizes.totals.Given as goal

abbrev pub invariant-loop : goal.invariant-loop
invariant-loop l = (k : ℕ) → slice_index_or l.table k 0 ≡ min (total_of l.counter l.children l.own k) 1001
