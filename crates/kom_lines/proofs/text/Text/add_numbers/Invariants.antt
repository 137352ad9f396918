use Rattle.std.proofs.Common.{◌≡◌, ◌++◌, take}
use Rattle.kom_record.specs.Trace.{numbers}
use Rattle.kom_lines.proofs.text.Text.add_numbers.Given as goal

abbrev pub invariant-loop-i : goal.invariant-loop-i
invariant-loop-i l = l.self ≡ l.fn.self ++ numbers (take l.i l.values)
