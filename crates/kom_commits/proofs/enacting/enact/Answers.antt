use Rattle.std.proofs.Common.{◌+◌, ◌||◌, refl, ap, ◌∙◌, length, arith}
use Rattle.std.proofs.lemmas.Bool.{eq-eqb}
use Rattle.kom_comps.specs.Members.{has}
use Rattle.kom_doing.specs.Marks.{marks_of}
use Rattle.kom_record.specs.Bodies.{catches}
use Rattle.kom_record.specs.declared.entry.Outcome.TheVariants as outcome
use Rattle.kom_record.specs.Entries.{acts}
use Rattle.kom_state.specs.Parts.{state_of}
use Rattle.kom_turns.proofs.Standing.{below, said}
use Rattle.kom_turns.proofs.Taking.{turned}
use Rattle.kom_commits.proofs.Beginning.{living}
use Rattle.kom_commits.proofs.Enacted.{enacted, lives_on, queued_now}
use Rattle.kom_commits.proofs.enacting.enact.Goals as goal

pub end_handling-requires : goal.end_handling-requires
end_handling-requires c =
    said _ c.requires.starts (λ s. lives_on c.args.system.now.declarations c.args.c c.args.item.now c.args.told.now c.args.body c.args.effects.now c.args.entering.now c.args.nursery.now c.act.new.nursery c.args.state.now c.act.new.state s.ending s.starts (c.act.ensures.acted s.ending s.starts) c.handlers_live.ensures c.handlings_are_within.ensures)

pub mark-requires : goal.mark-requires
mark-requires c =
    below _ _ c.requires.starts (λ s.
    let a = c.holds_together.ensures.made c.args.c (living c.args.system.now.declarations c.args.c c.args.item.now c.args.told.now c.args.body c.args.effects.now c.args.entering.now c.args.nursery.now c.args.state.now s.ending s.starts c.handlers_live.ensures) in
    let b = c.requires.room.marks in
    let d = (c.act.ensures.marks s.ending s.starts).bound in
    omega (arith, a, b, d))

pub returns-clause-enacted : goal.returns-clause-enacted
returns-clause-enacted c y s =
    enacted c.args.system.now.declarations c.args.c c.args.item.now c.args.told.now c.args.body c.args.effects.now c.args.entering.now c.args.nursery.now c.act.new.nursery c.args.state.now c.act.new.state y s (c.act.ensures.acted y s) c.end_handling.new.self (c.end_handling.ensures.step c.args.effects.now) c.end_handling.ensures.room c.numbers_stay.ensures

pub returns-clause-marks : goal.returns-clause-marks
returns-clause-marks c y s =
    let k = state_of c.act.new.state in
    let n = state_of c.end_handling.new.self in
    let at = c.args.c in
    let ended = c.end_handling.ensures.step c.args.effects.now in
    c.marks_add_up.ensures (((1 + length c.args.body.slots) + length c.args.entering.now.comings) + marks_of c.args.system.now.declarations (acts y.before) at c.args.item.now c.args.effects.now) 1
    c.args.marks.now c.act.new.marks c.mark.new.marks (state_of c.args.state.now) k n (c.act.ensures.marks y s)
    (c.mark.ensures.marked k n (λ d apart. c.ends_leave.ensures (catches c.args.system.now.declarations) at (outcome.Done c.args.body c.args.effects.now) k n d ended (turned at d ∙ apart)))

pub returns-clause-marked : goal.returns-clause-marked
returns-clause-marked c =
    c.mark.ensures.each c.args.c ∙ ap (λ b. b || has c.act.new.marks c.args.c) (eq-eqb c.args.c c.args.c refl)

pub returns-clause-bound : goal.returns-clause-bound
returns-clause-bound c =
    let a = c.act.ensures.bound in
    let b = c.mark.ensures.bound in
    let d = ap length (c.end_handling.ensures.step c.args.effects.now).tree.nodes in
    omega (arith, a, b, d)

pub returns-clause-queued : goal.returns-clause-queued
returns-clause-queued c y s =
    queued_now c.args.system.now.declarations c.args.c c.args.item.now c.args.told.now c.args.body c.args.effects.now c.args.entering.now c.args.nursery.now c.act.new.nursery c.args.state.now c.act.new.state y s (c.act.ensures.acted y s) c.end_handling.new.self (c.end_handling.ensures.step c.args.effects.now) c.end_handling.ensures.room c.handlings_end.ensures c.numbers_stay.ensures c.channels_are_numbered.ensures c.queued_is_below.ensures c.same_queues_count.ensures _ c.act.ensures.queued
