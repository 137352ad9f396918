use Rattle.kom_state.specs.Insides.{parts_of}
use Rattle.kom_state.proofs.Conditions.{living_row, control_room}
use Rattle.kom_state.proofs.Keeping.{is_put, rows_room, uses_control, rows_queues}
use Rattle.kom_state.proofs.state.RunState.put.Goals as goal

pub put-requires-clause-there : goal.put-requires-clause-there
put-requires-clause-there c = living_row (parts_of c.self.inside) c.args.c c.self.invariant (rw (← c.self.view_is) at c.requires.living)

pub put-requires-clause-spare : goal.put-requires-clause-spare
put-requires-clause-spare c = control_room (parts_of c.self.inside) c.args.c (rw (← c.self.view_is) at c.requires.spare)

pub returns-clause-step : goal.returns-clause-step
returns-clause-step c = rw (← c.self.view_is) (is_put (parts_of c.self.inside) c.put.new.self c.args.c c.args.item c.put.ensures.each)

pub returns-clause-room : goal.returns-clause-room
returns-clause-room c = rw (← c.self.view_is) (rows_room (parts_of c.self.inside) c.put.new.self c.put.ensures.room)

pub returns-clause-controls : goal.returns-clause-controls
returns-clause-controls c = rw (← c.self.view_is) (uses_control (parts_of c.self.inside) c.put.new.self c.args.c c.put.ensures.spare)

pub returns-clause-queues : goal.returns-clause-queues
returns-clause-queues c = rw (← c.self.view_is) (rows_queues (parts_of c.self.inside) c.put.new.self)
