use Rattle.std.proofs.Common.{◌≡◌, ◌+◌, ℕ, ◌&&◌, ◌||◌, length, subst, arith}
use Rattle.std.specs.Prelude.{nat_le, nat_lt}
use Rattle.kom_comps.specs.Members.{has}
use Rattle.kom_marks.specs.Marking.{IsMarked}
use Rattle.kom_state.specs.Parts.{state_of}
use Rattle.kom_changes.proofs.Sowing.{create_step, first_brood, sown_marked}
use Rattle.kom_changes.proofs.creating.create.Goals as goal

pub returns-clause-step : goal.returns-clause-step
returns-clause-step c = create_step c.args.system.now.declarations c.args.state.now c.sow.new.state c.args.nursery.now c.next.new.self c.in-Some.brood c.creations_are_sown.ensures c.channels_are_numbered.ensures c.holds_together.ensures
    c.in-Some.ensures c.sow.ensures.step c.sow.ensures.room

pub returns-clause-marks : goal.returns-clause-marks
returns-clause-marks c brood rest e =
    let v = c.args.state.now in
    let same = first_brood brood c.in-Some.brood rest c.next.new.self c.args.nursery.now e c.in-Some.ensures in
    let first = c.instance_count-first.ensures in
    let long = c.len.ensures in
    subst (λ b. IsMarked (length b) c.args.marks.now c.mark_from.new.marks (state_of v) (state_of c.sow.new.state)) same.0
    (sown_marked c.args.system.now.declarations v c.sow.new.state c.in-Some.brood c.args.marks.now c.mark_from.new.marks c.holds_together.ensures c.sow.ensures.step
    (subst (λ (q : ℕ × ℕ). (d : ℕ) → has c.mark_from.new.marks d ≡ ((nat_le q.0 d && nat_lt d (q.0 + q.1)) || has c.args.marks.now d)) (λ i. (first i, long i)) c.mark_from.ensures.each)
    (let few = c.mark_from.ensures.few in omega (arith, few, long)) c.mark_from.ensures.bound)
