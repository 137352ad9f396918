use Rattle.std.proofs.Common.{sym, ◌∙◌}
use Rattle.kom_state.specs.Insides.{parts_of}
use Rattle.kom_state.proofs.Conditions.{item_row, item_is, no_some}
use Rattle.kom_state.proofs.Keeping.{is_taken, rows_room, rows_controls, rows_queues}
use Rattle.kom_state.proofs.state.RunState.take_control.Goals as goal

pub take-requires : goal.take-requires
take-requires c = item_row (parts_of c.self.inside) c.args.c (rw (← c.self.view_is) at c.requires)

pub unreachable-requires : goal.unreachable-requires
unreachable-requires c =
    let h = rw (← c.self.view_is) at c.requires in
    no_some _ (item_is (parts_of c.self.inside) c.args.c ∙ sym c.take.ensures.item ∙ c.in-None.is) h

pub returns-clause-item : goal.returns-clause-item
returns-clause-item c = rw (← c.self.view_is) (item_is (parts_of c.self.inside) c.args.c ∙ sym c.take.ensures.item ∙ c.in-Some.is)

pub returns-clause-step : goal.returns-clause-step
returns-clause-step c = rw (← c.self.view_is) (is_taken (parts_of c.self.inside) c.take.new.self c.args.c c.in-Some.item c.take.ensures.each)

pub returns-clause-room : goal.returns-clause-room
returns-clause-room c = rw (← c.self.view_is) (rows_room (parts_of c.self.inside) c.take.new.self c.take.ensures.room)

pub returns-clause-controls : goal.returns-clause-controls
returns-clause-controls c = rw (← c.self.view_is) (rows_controls (parts_of c.self.inside) c.take.new.self c.take.ensures.spare)

pub returns-clause-queues : goal.returns-clause-queues
returns-clause-queues c = rw (← c.self.view_is) (rows_queues (parts_of c.self.inside) c.take.new.self)
