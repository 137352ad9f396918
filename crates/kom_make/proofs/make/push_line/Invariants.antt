use Rattle.std.proofs.Common.{◌≡◌, ◌++◌}
use Rattle.kom_make.specs.Texts.{copies}
use Rattle.kom_make.proofs.make.push_line.Given as goal

abbrev pub invariant-loop-i : goal.invariant-loop-i
invariant-loop-i l = l.out.items ≡ l.initial.out.items ++ copies l.n l.line l.i
