use Rattle.std.proofs.Common.{◌≡◌, Some, None, refl, sym, ap, ◌∙◌, subst}
use Rattle.std.specs.Option.{IsSome}
use Rattle.kom_base.specs.declared.numbers.Dir.TheVariants.{Plus, Minus}
use Rattle.kom_queues.specs.Slots.{slot_of, front_at}
use Rattle.kom_queues.proofs.Fronting.{Sets, Puts, added, sets_here, sets_there}
use Rattle.kom_queues.proofs.Sides.{there_is_living}
use Rattle.kom_queues.proofs.queues.Queues.open.Goals as goal

pub invariant_of-self-2 : goal.invariant_of-self-2
invariant_of-self-2 c =
    let i = c.self.inside in
    let absent : slot_of i.slots.0 c.args.x ≡ None = ap (λ m. slot_of m c.args.x) c.self.view_is ∙ c.requires in
    let sets : Sets i.slots.0 c.insert-3.new.self.0 c.args.x (Some c.blank-slot.result) = rw c.reserve.ensures.same at c.insert-3.ensures.values in
    let plus : Puts i.fronts.0 c.insert.new.self.0 (front_at c.blank-slot.result c.args.x Plus) = rw (c.make_front.ensures, c.arrival-plus.ensures, c.reserve-2.ensures.same) at c.insert.ensures.values in
    let minus : Puts c.insert.new.self.0 c.insert-2.new.self.0 (front_at c.blank-slot.result c.args.x Minus) = rw (c.make_front-2.ensures, c.arrival-minus.ensures) at c.insert-2.ensures.values in
    added i.slots.0 c.insert-3.new.self.0 i.fronts.0 c.insert.new.self.0 c.insert-2.new.self.0 c.args.x c.blank-slot.result c.self.invariant absent sets plus minus

pub returns-clause-others : goal.returns-clause-others
returns-clause-others c = λ y n.
    let i = c.self.inside in
    let sets : Sets i.slots.0 c.insert-3.new.self.0 c.args.x (Some c.blank-slot.result) = rw c.reserve.ensures.same at c.insert-3.ensures.values in
    sets_there i.slots.0 c.insert-3.new.self.0 c.args.x (Some c.blank-slot.result) sets y n ∙ ap (λ m. slot_of m y) c.self.view_is

pub returns-clause-ok : goal.returns-clause-ok
returns-clause-ok c =
    let i = c.self.inside in
    let sets : Sets i.slots.0 c.insert-3.new.self.0 c.args.x (Some c.blank-slot.result) = rw c.reserve.ensures.same at c.insert-3.ensures.values in
    subst IsSome (sym (sets_here i.slots.0 c.insert-3.new.self.0 c.args.x (Some c.blank-slot.result) sets c.args.x refl)) refl

pub returns-clause-blank : goal.returns-clause-blank
returns-clause-blank c =
    let i = c.self.inside in
    let sets : Sets i.slots.0 c.insert-3.new.self.0 c.args.x (Some c.blank-slot.result) = rw c.reserve.ensures.same at c.insert-3.ensures.values in
    there_is_living c.insert-3.new.self.0 c.args.x c.blank-slot.result (sets_here i.slots.0 c.insert-3.new.self.0 c.args.x (Some c.blank-slot.result) sets c.args.x refl) ∙ c.blank-slot.ensures.living
