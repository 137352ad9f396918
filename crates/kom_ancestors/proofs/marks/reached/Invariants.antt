use Rattle.std.proofs.Common.{◌≡◌, ◌<◌, ℕ, false, length, take, slice_index_or}
use Rattle.std.specs.List.{list_any}
use Rattle.kom_ancestors.specs.Far.{leads_to}
use Rattle.kom_ancestors.proofs.marks.reached.Given as goal

abbrev pub invariant-loop-next : goal.invariant-loop-next
invariant-loop-next l = record {
  count : length l.marks ≡ length l.table;
  marked : (b : ℕ) → b < length l.table → slice_index_or l.marks b false ≡ list_any (leads_to b) (take l.next-index l.table);
}
