use Rattle.kom_ready.specs.Lots.{AreLotsOf}
use Rattle.kom_ready.proofs.tests.each_is_given_once.Given as goal

abbrev pub invariant-loop-c : goal.invariant-loop-c
invariant-loop-c g l = record { lots : AreLotsOf l.set l.lots.items }

abbrev pub invariant-loop-i : goal.invariant-loop-i
invariant-loop-i g l = record { lots : AreLotsOf l.set l.lots.items }

abbrev pub invariant-loop : goal.invariant-loop
invariant-loop g l = record { lots : AreLotsOf l.set l.lots.items }
