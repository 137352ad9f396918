use Rattle.kom_core.specs.Listed.{AreListed}
use Rattle.kom_core.proofs.ready.members.Given as goal

abbrev pub invariant-loop-c : goal.invariant-loop-c
invariant-loop-c l = AreListed l.set l.c l.comps.items
