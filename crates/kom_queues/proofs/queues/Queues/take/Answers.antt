use Rattle.std.proofs.Common.{sym, ap, ◌∙◌}
use Rattle.std.specs.Option.{option_and_then}
use Rattle.kom_base.specs.Lists.{first}
use Rattle.kom_queues.specs.Slots.{is_there, queue_of, side, with_side}
use Rattle.kom_queues.specs.Waiting.{Waiting, popped}
use Rattle.kom_queues.proofs.Fronting.{lent, turned, there_is, not_there}
use Rattle.kom_queues.proofs.Sides.{stays_there, other_arrival, slot_there, queue_is, each_is}
use Rattle.kom_queues.proofs.queues.Queues.take.Goals as goal

pub lend-slot-requires : goal.lend-slot-requires
lend-slot-requires c = rw c.self.view_is (slot_there c.args.self.now c.args.x c.requires)

pub returns-clause-number : goal.returns-clause-number
returns-clause-number c =
    let i = c.self.inside in
    c.pop-taken.ensures.number ∙ sym (ap (option_and_then (λ (w : Waiting). first w.numbers)) (ap (λ m. queue_of m c.args.x c.args.d) (sym c.self.view_is) ∙ queue_is i.slots.0 c.args.x c.args.d c.lend-slot.result c.lend-slot.ensures.was (ap (λ m. is_there m c.args.x) c.self.view_is ∙ c.requires)))

pub refresh-requires : goal.refresh-requires
refresh-requires c =
    let i = c.self.inside in
    record {
      there = rw c.arrival-old.ensures (there_is i.slots.0 i.fronts.0 c.args.x c.lend-slot.result c.args.d c.self.invariant c.lend-slot.ensures.was);
      absent = rw c.arrival-old.ensures (not_there i.slots.0 i.fronts.0 c.args.x c.lend-slot.result c.args.d c.arrival-new.result c.self.invariant c.lend-slot.ensures.was);
    }

pub invariant_of-self : goal.invariant_of-self
invariant_of-self c =
    let i = c.self.inside in
    let l = c.lend-slot.result in
    let sets = lent i.slots.0 c.lend-slot.new.slots.0 c.restore.new.slots.0 c.args.x (with_side c.lend-slot.result c.args.d (popped (side c.lend-slot.result c.args.d))) c.lend-slot.ensures.others (rw c.pop-taken.ensures.rest at c.restore.ensures) in
    turned i.slots.0 c.restore.new.slots.0 i.fronts.0 c.refresh.new.fronts.0 c.args.x c.lend-slot.result (with_side c.lend-slot.result c.args.d (popped (side c.lend-slot.result c.args.d))) c.args.d c.self.invariant c.lend-slot.ensures.was sets
    (other_arrival c.lend-slot.result c.args.d (popped (side c.lend-slot.result c.args.d))) (rw (c.arrival-old.ensures, c.arrival-new.ensures, c.pop-taken.ensures.rest) at c.refresh.ensures)

pub returns-clause-slots : goal.returns-clause-slots
returns-clause-slots c = λ y.
    let i = c.self.inside in
    let sets = lent i.slots.0 c.lend-slot.new.slots.0 c.restore.new.slots.0 c.args.x (with_side c.lend-slot.result c.args.d (popped (side c.lend-slot.result c.args.d))) c.lend-slot.ensures.others (rw c.pop-taken.ensures.rest at c.restore.ensures) in
    rw (← c.self.view_is) (each_is i.slots.0 c.restore.new.slots.0 c.args.x (λ s. with_side s c.args.d (popped (side s c.args.d))) c.lend-slot.result c.lend-slot.ensures.was sets y)

pub returns-clause-there : goal.returns-clause-there
returns-clause-there c = stays_there c.args.self.now c.restore.new.slots.0 c.args.x c.args.d (λ s. popped (side s c.args.d)) (returns-clause-slots c)
