use Rattle.std.proofs.Common.{◌≡◌, ℕ, false, slice_index_or}
use Rattle.kom_containers.specs.Nested.{is_within}
use Rattle.kom_containers.proofs.below.holders_of.Given as goal

abbrev pub invariant-loop : goal.invariant-loop
invariant-loop l = (k : ℕ) → slice_index_or l.table k false ≡ is_within l.counter l.children l.number k
