use Rattle.std.proofs.Common.{◌≡◌, take}
use Rattle.kom_births.specs.Sprouts.{child_in}
use Rattle.kom_births.proofs.linking.child_of.Given as goal

abbrev pub invariant-loop-k : goal.invariant-loop-k
invariant-loop-k l = l.child ≡ child_in l.comp l.slot l.number (take l.k l.sprouts)
