use Rattle.std.proofs.Common.{arith}
use Rattle.kom_begins.proofs.begins.none_of.Goals as goal

pub returns-clause-bound : goal.returns-clause-bound
returns-clause-bound c =
    let a = c.new-comps.ensures.bound in
    let b = c.in_ok-widen.ensures.ok in
    let d = c.in_ok-widen.ensures.not_more in
    omega (arith, a, b, d)
