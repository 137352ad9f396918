use Rattle.std.proofs.Common.{sym, ◌∙◌}
use Rattle.kom_queues.specs.Waiting.{popped}
use Rattle.kom_state.specs.Insides.{parts_of}
use Rattle.kom_state.proofs.Conditions.{number_there, number_is, no_some}
use Rattle.kom_state.proofs.Keeping.{is_taken_from, slots_room, slots_controls, slots_queues, popped_spare}
use Rattle.kom_state.proofs.state.RunState.take_arrival.Goals as goal

pub take-requires : goal.take-requires
take-requires c = number_there (parts_of c.self.inside) c.args.x c.args.d (rw (← c.self.view_is) at c.requires)

pub unreachable-requires : goal.unreachable-requires
unreachable-requires c =
    let h = rw (← c.self.view_is) at c.requires in
    no_some _ (number_is (parts_of c.self.inside) c.args.x c.args.d h ∙ sym c.take.ensures.number ∙ c.in-None.is) h

pub returns-clause-number : goal.returns-clause-number
returns-clause-number c =
    let h = rw (← c.self.view_is) at c.requires in
    rw (← c.self.view_is) (number_is (parts_of c.self.inside) c.args.x c.args.d h ∙ sym c.take.ensures.number ∙ c.in-Some.is)

pub returns-clause-step : goal.returns-clause-step
returns-clause-step c = rw (← c.self.view_is) (is_taken_from (parts_of c.self.inside) c.take.new.self c.args.x c.args.d c.take.ensures.slots)

pub returns-clause-room : goal.returns-clause-room
returns-clause-room c = rw (← c.self.view_is) (slots_room (parts_of c.self.inside) c.take.new.self c.args.x c.args.d popped c.take.ensures.slots)

pub returns-clause-controls : goal.returns-clause-controls
returns-clause-controls c = rw (← c.self.view_is) (slots_controls (parts_of c.self.inside) c.take.new.self c.args.x c.args.d)

pub returns-clause-queues : goal.returns-clause-queues
returns-clause-queues c = rw (← c.self.view_is) (slots_queues (parts_of c.self.inside) c.take.new.self c.args.x c.args.d popped popped_spare c.take.ensures.slots)
