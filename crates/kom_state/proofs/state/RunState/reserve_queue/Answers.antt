use Rattle.kom_state.specs.Insides.{parts_of}
use Rattle.kom_state.specs.Parts.{queue_spare, has_queues}
use Rattle.kom_state.proofs.Reserving.{slots_same, slots_less}
use Rattle.kom_state.proofs.state.RunState.reserve_queue.Goals as goal

pub returns-clause-same : goal.returns-clause-same
returns-clause-same c = rw (← c.self.view_is) (slots_same (parts_of c.self.inside) c.reserve.new.self c.reserve.ensures.same)

pub returns-clause-not_less : goal.returns-clause-not_less
returns-clause-not_less c = rw (← c.self.view_is) (slots_less (parts_of c.self.inside) c.reserve.new.self c.reserve.ensures.not_less c.reserve.ensures.slots)

pub returns-clause-slot : goal.returns-clause-slot
unfolding has_queues
returns-clause-slot c = c.reserve.ensures.room

pub returns-clause-ok : goal.returns-clause-ok
unfolding queue_spare
returns-clause-ok c = c.reserve.ensures.ok
