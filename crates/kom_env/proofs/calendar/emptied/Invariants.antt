use Rattle.std.proofs.Common.{◌≡◌, ◌≤◌, ◌+◌, ◌++◌, length, vec_len, vec_capacity}
use Rattle.kom_index.specs.Stock.{entries}
use Rattle.kom_env.specs.Raised.{raises_in}
use Rattle.kom_env.proofs.calendar.emptied.Given as goal

abbrev pub invariant-loop-raise : goal.invariant-loop-raise
invariant-loop-raise l = record {
  same : l.list.items ++ raises_in (entries l.raises) ≡ l.fn.list.items ++ raises_in (entries l.fn.raises);
  room : vec_len l.list + length (entries l.raises) ≤ vec_capacity l.list;
}

abbrev pub decreases-loop-raise : goal.decreases-loop-raise
decreases-loop-raise l = length (entries l.raises)
