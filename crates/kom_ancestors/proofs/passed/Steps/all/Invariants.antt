use Rattle.std.proofs.Common.{length}
use Rattle.kom_ancestors.proofs.Passing.{Doubling}
use Rattle.kom_ancestors.proofs.passed.Steps.all.Given as goal

abbrev pub invariant-doubling : goal.invariant-doubling
invariant-doubling l = Doubling l.done l.power l.left (length l.parents) l.parents l.own

abbrev pub decreases-doubling : goal.decreases-doubling
decreases-doubling l = l.left
