use Rattle.std.proofs.Common.{◌≡◌, ℕ, slice_index_or}
use Rattle.kom_lang.specs.Declarations.{height}
use Rattle.kom_system.proofs.heights.heights.Given as goal

abbrev pub invariant-loop : goal.invariant-loop
invariant-loop l = (k : ℕ) → slice_index_or l.table k 0 ≡ height l.counter l.kinds k
