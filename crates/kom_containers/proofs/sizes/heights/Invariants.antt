use Rattle.std.proofs.Common.{◌≡◌, ℕ, slice_index_or}
use Rattle.kom_containers.specs.Nested.{levels_of}
use Rattle.kom_containers.proofs.sizes.heights.Given as goal

abbrev pub invariant-loop : goal.invariant-loop
invariant-loop l = (k : ℕ) → slice_index_or l.table k 0 ≡ levels_of l.counter l.children k
