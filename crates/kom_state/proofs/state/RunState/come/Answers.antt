use Rattle.std.proofs.Common.{refl}
use Rattle.kom_queues.specs.Slots.{pushed}
use Rattle.kom_state.specs.Insides.{parts_of}
use Rattle.kom_state.proofs.Conditions.{queue_there, queue_room}
use Rattle.kom_state.proofs.Keeping.{has_come, slots_room, uses_queue, slots_controls}
use Rattle.kom_state.proofs.state.RunState.come.Goals as goal

pub enter-requires-clause-there : goal.enter-requires-clause-there
enter-requires-clause-there c = queue_there (parts_of c.self.inside) c.args.x c.args.d (rw (← c.self.view_is) at c.requires.there)

pub enter-requires-clause-spare : goal.enter-requires-clause-spare
enter-requires-clause-spare c = queue_room (parts_of c.self.inside) c.args.x c.args.d (rw (← c.self.view_is) at c.requires.spare)

pub returns-clause-step : goal.returns-clause-step
returns-clause-step c = rw (← c.self.view_is) (has_come (parts_of c.self.inside) c.enter.new.self c.args.x c.args.d c.args.«no» c.enter.ensures.slots)

pub returns-clause-room : goal.returns-clause-room
returns-clause-room c = rw (← c.self.view_is) (slots_room (parts_of c.self.inside) c.enter.new.self c.args.x c.args.d (λ w. pushed w c.args.«no») c.enter.ensures.slots)

pub returns-clause-controls : goal.returns-clause-controls
returns-clause-controls c = rw (← c.self.view_is) (slots_controls (parts_of c.self.inside) c.enter.new.self c.args.x c.args.d)

pub returns-clause-queues : goal.returns-clause-queues
returns-clause-queues c = rw (← c.self.view_is) (uses_queue (parts_of c.self.inside) c.enter.new.self c.args.x c.args.d (λ w. pushed w c.args.«no») (λ w. refl) c.enter.ensures.slots)
