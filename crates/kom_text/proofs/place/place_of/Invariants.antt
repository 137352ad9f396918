use Rattle.std.proofs.Common.{◌≡◌, ◌≤◌, ◌+◌}
use Rattle.kom_text.specs.Places.{line_of, column_of}
use Rattle.kom_text.proofs.place.place_of.Given as goal

abbrev pub invariant-loop-b : goal.invariant-loop-b
invariant-loop-b l = record {
  line : l.line ≡ line_of l.b-items l.b-index;
  column : l.column ≡ column_of l.b-items l.b-index;
  few_lines : l.line ≤ 1 + l.b-index;
  few_columns : l.column ≤ 1 + l.b-index;
}
