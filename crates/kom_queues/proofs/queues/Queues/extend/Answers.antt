use Rattle.kom_queues.proofs.Fronting.{lent, kept}
use Rattle.kom_queues.proofs.Sides.{same_arrivals}
use Rattle.kom_queues.proofs.queues.Queues.extend.Goals as goal

pub invariant_of-self : goal.invariant_of-self
invariant_of-self c =
    let i = c.self.inside in
    let e = c.reserve-outcome.ensures in
    let sets = lent i.slots.0 c.lend-slot.new.slots.0 c.restore.new.slots.0 c.args.x c.reserve-outcome.new.self c.lend-slot.ensures.others c.restore.ensures in
    kept i.slots.0 c.restore.new.slots.0 i.fronts.0 c.args.x c.lend-slot.result c.reserve-outcome.new.self c.self.invariant c.lend-slot.ensures.was sets
    (same_arrivals c.lend-slot.result c.reserve-outcome.new.self c.args.d e.rest e.numbers e.aim)
