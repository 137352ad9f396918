use Rattle.std.proofs.Common.{None}
use Rattle.kom_base.specs.declared.numbers.Dir.TheVariants.{Plus}
use Rattle.kom_queues.specs.Slots.{front_at}
use Rattle.kom_queues.proofs.Fronting.{removed, sets_each, plugs_slot}
use Rattle.kom_queues.proofs.Sides.{slot_there}
use Rattle.kom_queues.proofs.queues.Queues.kill.Goals as goal

pub remove-slot-requires : goal.remove-slot-requires
remove-slot-requires c = rw c.self.view_is (slot_there c.args.self.now c.args.x c.requires)

pub remove-requires : goal.remove-requires
remove-requires c =
    let i = c.self.inside in
    rw c.front.ensures (c.self.invariant.complete (front_at c.remove-slot.result c.args.x Plus) (plugs_slot i.slots.0 c.remove-slot.result c.args.x Plus c.remove-slot.ensures.value))

pub invariant_of-self : goal.invariant_of-self
invariant_of-self c =
    let i = c.self.inside in
    removed i.slots.0 c.remove-slot.new.self.0 i.fronts.0 c.remove.new.self.0 c.remove-2.new.self.0 c.args.x c.remove-slot.result c.self.invariant c.remove-slot.ensures.value c.remove-slot.ensures.values
    (rw c.front.ensures at c.remove.ensures.values) (rw c.front-2.ensures at c.remove-2.ensures.values)

pub returns : goal.returns
returns c = λ y.
    let i = c.self.inside in
    rw (← c.self.view_is) (sets_each i.slots.0 c.remove-slot.new.self.0 c.args.x None c.remove-slot.ensures.values y)
