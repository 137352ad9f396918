use Rattle.kom_wiring.specs.Wires.{link_of, link_at, with_end}
use Rattle.kom_refine.specs.Steps as steps
use Rattle.kom_state.specs.Insides.{parts_of}
use Rattle.kom_state.proofs.Conditions.{linked, linked_there}
use Rattle.kom_state.proofs.Relinking.{stays_tied, relinks, links_room, links_controls, links_queues, link_changed, end_change}
use Rattle.kom_state.proofs.state.RunState.move_end.Goals as goal

pub move_end-requires : goal.move_end-requires
move_end-requires c = linked (parts_of c.self.inside) c.args.x (rw (← c.self.view_is) at c.requires)

pub aim_both-requires-clause-there : goal.aim_both-requires-clause-there
aim_both-requires-clause-there c = linked_there (parts_of c.self.inside) c.args.x c.self.invariant (linked (parts_of c.self.inside) c.args.x (rw (← c.self.view_is) at c.requires))

pub invariant_of-self : goal.invariant_of-self
invariant_of-self c =
    let v = parts_of c.self.inside in
    let was = linked v c.args.x (rw (← c.self.view_is) at c.requires) in
    stays_tied v c.move_end.new.self c.aim_both.new.queues c.args.x (with_end (link_at v.wires.links c.args.x) c.args.end c.args.at)
    (record { was = was; links = c.move_end.ensures.each; queues = c.aim_both.ensures.queues }) c.self.invariant

pub returns-clause-step : goal.returns-clause-step
returns-clause-step c =
    let v = parts_of c.self.inside in
    let was = linked v c.args.x (rw (← c.self.view_is) at c.requires) in
    rw (← c.self.view_is) (relinks v c.move_end.new.self c.aim_both.new.queues c.args.x (with_end (link_at v.wires.links c.args.x) c.args.end c.args.at) (steps.with_end c.args.end c.args.at)
    (record { was = was; links = c.move_end.ensures.each; queues = c.aim_both.ensures.queues })
    (link_changed (link_of v.wires.links c.args.x) (λ l. with_end l c.args.end c.args.at) (steps.with_end c.args.end c.args.at) was (end_change c.args.end c.args.at)))

pub returns-clause-room : goal.returns-clause-room
returns-clause-room c =
    let v = parts_of c.self.inside in
    rw (← c.self.view_is) (links_room v c.move_end.new.self c.aim_both.new.queues c.args.x (link_at v.wires.links c.args.x) c.move_end.ensures.spare c.aim_both.ensures.slots)

pub returns-clause-controls : goal.returns-clause-controls
returns-clause-controls c =
    let v = parts_of c.self.inside in
    rw (← c.self.view_is) (links_controls v c.move_end.new.self c.aim_both.new.queues c.args.x (link_at v.wires.links c.args.x))

pub returns-clause-queues : goal.returns-clause-queues
returns-clause-queues c =
    let v = parts_of c.self.inside in
    rw (← c.self.view_is) (links_queues v c.move_end.new.self c.aim_both.new.queues c.args.x (link_at v.wires.links c.args.x) c.aim_both.ensures.room)
