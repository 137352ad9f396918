use Rattle.std.proofs.Common.{◌∙◌, ◌++◌, [], ap, sym, Option, ℕ, append-nil}
use Rattle.std.specs.List.{cons_option}
use Rattle.kom_rules.specs.Fitting.{child_number}
use Rattle.kom_containers.proofs.Levels.{chosen_push}
use Rattle.kom_containers.proofs.children.children_in.Goals as goal
use Rattle.kom_containers.proofs.children.children_in.Goals.{in-Some+in_ok-push, in_default}

pub loop-slot-preserved : goal.loop-slot-preserved
loop-slot-preserved c =
    let more = chosen_push (child_number c.args.parts.now) c.as_slice-slot-items.result.now c.loop-slot.slot-index c.slot-item.result c.loop-slot.list c.loop-slot-test.true c.slot-item.is c.loop-slot.invariant in
    elim c.match-child_number.branch [
      | in-Some+in_ok-push w ↦ w.list-is ∙ w.in_ok-push.ensures.ok ∙ ap (λ (o : Option ℕ). c.loop-slot.list ++ cons_option o []) (sym w.in-Some.is ∙ c.child_number.ensures) ∙ more
      | in_default w ↦ w.list-is ∙ sym (append-nil c.loop-slot.list) ∙ ap (λ (o : Option ℕ). c.loop-slot.list ++ cons_option o []) (sym w.in_default.is ∙ c.child_number.ensures) ∙ more
    ]
