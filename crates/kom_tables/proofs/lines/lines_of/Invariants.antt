use Rattle.std.proofs.Common.{◌≡◌, ◌<◌, ℕ, length, [], slice_index_or}
use Rattle.kom_tables.specs.Ancestry.{line_up}
use Rattle.kom_tables.proofs.lines.lines_of.Given as goal

abbrev pub invariant-loop-kind : goal.invariant-loop-kind
invariant-loop-kind l = record {
  count : length l.lines ≡ l.kind;
  each : (b : ℕ) → b < l.kind → slice_index_or l.lines b [] ≡ line_up (length l.parents) l.parents b;
}
