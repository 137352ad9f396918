use Rattle.std.proofs.Common.{◌≡◌, ◌++◌, drop}
use Rattle.kom_lang.specs.Declarations.{numbers_of}
use Rattle.kom_system.proofs.Numbered.{numbers_from}
use Rattle.kom_eval.specs.Wanted.{passes}
use Rattle.kom_eval.proofs.prepare.numbers_of.Given as goal

abbrev pub invariant-loop-i : goal.invariant-loop-i
invariant-loop-i l = l.numbers ++ numbers_from (passes l.wanted) l.i (drop l.i l.handler-items) ≡ numbers_of (passes l.wanted) l.handler-items
