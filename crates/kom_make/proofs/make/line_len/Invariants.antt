use Rattle.std.proofs.Common.{◌≡◌, ◌+◌, drop}
use Rattle.kom_make.specs.Parts.{line_len}
use Rattle.kom_make.proofs.make.line_len.Given as goal

abbrev pub invariant-loop-i : goal.invariant-loop-i
invariant-loop-i l = line_len l.text ≡ l.i + line_len (drop l.i l.text)
