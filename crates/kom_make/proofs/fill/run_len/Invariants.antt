use Rattle.std.proofs.Common.{◌≡◌, ◌+◌, drop}
use Rattle.kom_make.specs.Parts.{run_len}
use Rattle.kom_make.proofs.fill.run_len.Given as goal

abbrev pub invariant-loop-i : goal.invariant-loop-i
invariant-loop-i l = run_len l.text ≡ l.i + run_len (drop l.i l.text)
