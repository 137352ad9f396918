use Rattle.std.proofs.Common.{Some, None, [], cond, refl, sym, ap, ◌∙◌, arith}
use Rattle.kom_queues.specs.Slots.{slot_of, is_there, spare_of, side}
use Rattle.kom_queues.proofs.Fronting.{lent, kept, sets_there, sets_here}
use Rattle.kom_queues.proofs.Sides.{dead_arrival, empty_arrival, dead_is, both_aims, both_empty, both_spare, content_is, there_is_living, spare_is}
use Rattle.kom_queues.proofs.queues.Queues.add.Goals as goal

pub lend-slot-requires : goal.lend-slot-requires
lend-slot-requires c = rw c.self.view_is c.requires.room

pub invariant_of-self : goal.invariant_of-self
invariant_of-self c =
    let i = c.self.inside in
    let sets = lent i.slots.0 c.lend-slot.new.slots.0 c.restore.new.slots.0 c.args.x c.revive.new.self c.lend-slot.ensures.others c.restore.ensures in
    let dead = dead_is i.slots.0 c.args.x c.lend-slot.result c.lend-slot.ensures.was (ap (λ m. is_there m c.args.x) c.self.view_is ∙ c.requires.absent) in
    kept i.slots.0 c.restore.new.slots.0 i.fronts.0 c.args.x c.lend-slot.result c.revive.new.self c.self.invariant c.lend-slot.ensures.was sets
    (λ d. empty_arrival c.revive.new.self d (both_aims c.revive.new.self c.revive.ensures.plus_aim c.revive.ensures.minus_aim d) ∙ sym (dead_arrival c.lend-slot.result d dead))

pub returns-clause-others : goal.returns-clause-others
returns-clause-others c = λ y n.
    let i = c.self.inside in
    sets_there i.slots.0 c.restore.new.slots.0 c.args.x (Some c.revive.new.self) (lent i.slots.0 c.lend-slot.new.slots.0 c.restore.new.slots.0 c.args.x c.revive.new.self c.lend-slot.ensures.others c.restore.ensures) y n
    ∙ ap (λ m. slot_of m y) c.self.view_is

pub returns-clause-there : goal.returns-clause-there
returns-clause-there c =
    let i = c.self.inside in
    let sets = lent i.slots.0 c.lend-slot.new.slots.0 c.restore.new.slots.0 c.args.x c.revive.new.self c.lend-slot.ensures.others c.restore.ensures in
    there_is_living c.restore.new.slots.0 c.args.x c.revive.new.self (sets_here i.slots.0 c.restore.new.slots.0 c.args.x (Some c.revive.new.self) sets c.args.x refl) ∙ c.revive.ensures.living

pub returns-clause-empty : goal.returns-clause-empty
returns-clause-empty c = λ e.
    let i = c.self.inside in
    let sets = lent i.slots.0 c.lend-slot.new.slots.0 c.restore.new.slots.0 c.args.x c.revive.new.self c.lend-slot.ensures.others c.restore.ensures in
    content_is c.restore.new.slots.0 c.args.x e c.revive.new.self (sets_here i.slots.0 c.restore.new.slots.0 c.args.x (Some c.revive.new.self) sets c.args.x refl)
    ∙ ap (λ b. cond b (Some ((side c.revive.new.self e).numbers, (side c.revive.new.self e).aim)) None) c.revive.ensures.living
    ∙ ap (λ ns. Some (ns, (side c.revive.new.self e).aim)) (both_empty c.revive.new.self c.revive.ensures.plus c.revive.ensures.minus e)
    ∙ ap (λ a. Some ([], a)) (both_aims c.revive.new.self c.revive.ensures.plus_aim c.revive.ensures.minus_aim e)

pub returns-clause-spare : goal.returns-clause-spare
returns-clause-spare c = λ e.
    let i = c.self.inside in
    let sets = lent i.slots.0 c.lend-slot.new.slots.0 c.restore.new.slots.0 c.args.x c.revive.new.self c.lend-slot.ensures.others c.restore.ensures in
    let more = both_spare c.lend-slot.result c.revive.new.self c.revive.ensures.plus_spare c.revive.ensures.minus_spare e in
    let was = spare_is i.slots.0 c.args.x e c.lend-slot.result c.lend-slot.ensures.was in
    let now = spare_is c.restore.new.slots.0 c.args.x e c.revive.new.self (sets_here i.slots.0 c.restore.new.slots.0 c.args.x (Some c.revive.new.self) sets c.args.x refl) in
    omega (arith, more, was, now, ap (λ m. spare_of m c.args.x e) c.self.view_is)
