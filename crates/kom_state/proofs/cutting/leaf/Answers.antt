use Rattle.std.proofs.Common.{arith}
use Rattle.kom_state.proofs.Lines.{alive_within, older_child}
use Rattle.kom_state.proofs.cutting.leaf.Goals as goal

pub loop-d-smaller : goal.loop-d-smaller
loop-d-smaller c =
    let is = c.args.tree.now.instances in
    let within = alive_within is c.in-Some.d c.in-Some.ensures.0 in
    let older = older_child is c.well_grown.ensures c.loop-d.last c.in-Some.d c.in-Some.ensures.1 in
    omega (arith, within, older)
