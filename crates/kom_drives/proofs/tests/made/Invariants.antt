use Rattle.std.specs.Arc.{arc_value}
use Rattle.kom_drives.specs.Pairs.{IsPair}
use Rattle.kom_drives.proofs.tests.made.Given as goal

abbrev pub invariant-loop-call : goal.invariant-loop-call
invariant-loop-call g l = IsPair l.pair.core (arc_value l.pair.system) l.pair.plan l.pair.zero l.pair.one
