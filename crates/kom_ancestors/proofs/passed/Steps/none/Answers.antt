use Rattle.std.proofs.Common.{arith}
use Rattle.kom_ancestors.proofs.Passing.{none_pass}
use Rattle.kom_ancestors.proofs.passed.Steps.none.Goals as goal

pub returns : goal.returns
returns c parents own e =
    none_pass parents own _ (omega (arith, c.loop-kind.invariant.count)) (λ k lt. c.loop-kind.invariant.leads k (omega arith)) (omega (arith, c.loop-kind.invariant.many)) (λ k lt. c.loop-kind.invariant.none k (omega arith))
