use Rattle.std.proofs.Common.{false, ◌∙◌, ap, if◌then◌else◌}
use Rattle.std.specs.Prelude.{◌==◌}
use Rattle.std.specs.Option.{option_map}
use Rattle.kom_life.specs.Rows.{living_of, with_flags}
use Rattle.kom_state.specs.Insides.{parts_of}
use Rattle.kom_state.proofs.Conditions.{living_row, body_there}
use Rattle.kom_state.proofs.Ending.{within_bodies, has_faulted}
use Rattle.kom_state.proofs.Keeping.{bodies_room, bodies_controls, bodies_queues}
use Rattle.kom_state.proofs.state.RunState.fault.Goals as goal

pub set-requires : goal.set-requires
set-requires c = living_row (parts_of c.self.inside) c.args.c c.self.invariant (rw (← c.self.view_is) at c.requires)

pub rest-requires : goal.rest-requires
rest-requires c =
    let v = parts_of c.self.inside in
    within_bodies v.bodies.bodies c.args.c (body_there v c.args.c c.self.invariant (rw (← c.self.view_is) at c.requires))

pub returns-clause-step : goal.returns-clause-step
returns-clause-step c =
    let v = parts_of c.self.inside in
    rw (← c.self.view_is) (has_faulted v c.set.new.self c.rest.new.self c.args.c c.args.system.now.declarations
    (body_there v c.args.c c.self.invariant (rw (← c.self.view_is) at c.requires))
    (λ y. c.set.ensures.each y ∙ ap (λ b. if y == c.args.c then option_map (with_flags false b) (living_of v.rows c.args.c) else living_of v.rows y) c.catches_in-catches.ensures)
    c.rest.ensures.each)

pub returns-clause-room : goal.returns-clause-room
returns-clause-room c = rw (← c.self.view_is) (bodies_room (parts_of c.self.inside) c.set.new.self c.rest.new.self c.set.ensures.room c.rest.ensures.spare)

pub returns-clause-controls : goal.returns-clause-controls
returns-clause-controls c = rw (← c.self.view_is) (bodies_controls (parts_of c.self.inside) c.set.new.self c.rest.new.self c.set.ensures.spare)

pub returns-clause-queues : goal.returns-clause-queues
returns-clause-queues c = rw (← c.self.view_is) (bodies_queues (parts_of c.self.inside) c.set.new.self c.rest.new.self)
