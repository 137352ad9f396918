use Rattle.kom_state.specs.Insides.{parts_of}
use Rattle.kom_state.specs.Parts.{control_spare, has_row}
use Rattle.kom_state.proofs.Reserving.{rows_same, rows_less}
use Rattle.kom_state.proofs.state.RunState.reserve_controls.Goals as goal

pub returns-clause-same : goal.returns-clause-same
returns-clause-same c = rw (← c.self.view_is) (rows_same (parts_of c.self.inside) c.reserve.new.self c.reserve.ensures.same)

pub returns-clause-not_less : goal.returns-clause-not_less
returns-clause-not_less c = rw (← c.self.view_is) (rows_less (parts_of c.self.inside) c.reserve.new.self c.reserve.ensures.not_less c.reserve.ensures.room_stays)

pub returns-clause-row : goal.returns-clause-row
unfolding has_row
returns-clause-row c = c.reserve.ensures.room

pub returns-clause-ok : goal.returns-clause-ok
unfolding control_spare
returns-clause-ok c = c.reserve.ensures.ok
