use Rattle.std.proofs.Common.{◌≡◌, ◌<◌, ℕ, false, length, slice_index_or}
use Rattle.kom_ancestors.proofs.marks.unmarked.Given as goal

abbrev pub invariant-loop : goal.invariant-loop
invariant-loop l = record {
  count : length l.marks ≡ l.counter;
  none : (b : ℕ) → b < l.counter → slice_index_or l.marks b false ≡ false;
}
