use Rattle.std.proofs.Common.{◌≡◌, ◌++◌, drop}
use Rattle.kom_lang.specs.Declarations.{is_on, numbers_of}
use Rattle.kom_system.proofs.Numbered.{numbers_from}
use Rattle.kom_system.proofs.birth.numbers_of_on.Given as goal

abbrev pub invariant-loop-i : goal.invariant-loop-i
invariant-loop-i l = l.subs ++ numbers_from is_on l.i (drop l.i l.handler-items) ≡ numbers_of is_on l.handler-items
