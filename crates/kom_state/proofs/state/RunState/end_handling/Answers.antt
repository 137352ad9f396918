use Rattle.std.proofs.Common.{◌≡◌, ◌∙◌, sym, ap, refl, Some, if◌then◌else◌}
use Rattle.std.specs.Prelude.{is_some}
use Rattle.kom_record.specs.Bodies.{catches}
use Rattle.kom_record.specs.declared.entry.Outcome.TheVariants as outcome
use Rattle.kom_state.specs.Insides.{parts_of}
use Rattle.kom_state.specs.Shelves.{body_at}
use Rattle.kom_state.proofs.Conditions.{living_row, body_there}
use Rattle.kom_state.proofs.Ending.{within_bodies, after_is, bodies_tied}
use Rattle.kom_state.proofs.Keeping.{itself, is_ended, bodies_room, bodies_controls, bodies_queues}
use Rattle.kom_state.proofs.state.RunState.end_handling.Goals as goal

pub set-requires : goal.set-requires
set-requires c = living_row (parts_of c.self.inside) c.args.c c.self.invariant (rw (← c.self.view_is) at c.requires)

pub set-requires-2 : goal.set-requires-2
set-requires-2 c =
    let v = parts_of c.self.inside in
    within_bodies v.bodies.bodies c.args.c (body_there v c.args.c c.self.invariant (rw (← c.self.view_is) at c.requires))

pub invariant_of-self : goal.invariant_of-self
invariant_of-self c =
    let v = parts_of c.self.inside in
    let living = body_there v c.args.c c.self.invariant (rw (← c.self.view_is) at c.requires) in
    let here : body_at c.set-2.new.self.bodies c.args.c ≡ Some c.args.body = c.set-2.ensures.each c.args.c ∙ ap (λ b. if b then Some c.args.body else body_at v.bodies.bodies c.args.c) (itself c.args.c) in
    bodies_tied v c.set.new.self c.set-2.new.self c.args.c c.self.invariant c.set.ensures.there c.set-2.ensures.long
    (ap is_some here ∙ sym living)
    (λ d f. c.set-2.ensures.each d ∙ ap (λ b. if b then Some c.args.body else body_at v.bodies.bodies d) f)

pub returns-clause-step : goal.returns-clause-step
returns-clause-step c = λ effects.
    let v = parts_of c.self.inside in
    let living = body_there v c.args.c c.self.invariant (rw (← c.self.view_is) at c.requires) in
    let here : body_at c.set-2.new.self.bodies c.args.c ≡ Some c.args.body = c.set-2.ensures.each c.args.c ∙ ap (λ b. if b then Some c.args.body else body_at v.bodies.bodies c.args.c) (itself c.args.c) in
    rw (← c.self.view_is) (is_ended v c.set.new.self c.set-2.new.self (catches c.args.system.now.declarations) c.args.c (outcome.Done c.args.body effects) c.args.body
    here (after_is (λ a. c.args.body) c.args.body (body_at v.bodies.bodies c.args.c) (λ a. refl) living)
    (rw c.catches_faults-catches.ensures at c.set.ensures.each)
    (λ d f. c.set-2.ensures.each d ∙ ap (λ b. if b then Some c.args.body else body_at v.bodies.bodies d) f))

pub returns-clause-room : goal.returns-clause-room
returns-clause-room c = rw (← c.self.view_is) (bodies_room (parts_of c.self.inside) c.set.new.self c.set-2.new.self c.set.ensures.room c.set-2.ensures.spare)

pub returns-clause-controls : goal.returns-clause-controls
returns-clause-controls c = rw (← c.self.view_is) (bodies_controls (parts_of c.self.inside) c.set.new.self c.set-2.new.self c.set.ensures.spare)

pub returns-clause-queues : goal.returns-clause-queues
returns-clause-queues c = rw (← c.self.view_is) (bodies_queues (parts_of c.self.inside) c.set.new.self c.set-2.new.self)
