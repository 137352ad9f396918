use Rattle.std.proofs.Common.{arith}
use Rattle.kom_index.proofs.Order.{between_fewer}
use Rattle.kom_index.proofs.ordered.Ordered.count_between.Goals as goal

pub returns-clause-small : goal.returns-clause-small
returns-clause-small g c =
    let fewer = between_fewer g.K.Ord.cmp c.args.low.now c.args.high.now c.self.inside.tree in
    omega (arith, fewer, c.count_between.ensures.count, c.self.invariant.counted, c.self.invariant.fits, c.capacity-room.ensures, c.capacity-room.type_inv)
