use Rattle.kom_state.specs.Insides.{parts_of}
use Rattle.kom_state.specs.Parts.{channel_spare}
use Rattle.kom_state.proofs.Reserving.{wires_same, wires_less}
use Rattle.kom_state.proofs.state.RunState.reserve_channels.Goals as goal

pub returns-clause-same : goal.returns-clause-same
returns-clause-same c = rw (← c.self.view_is) (wires_same (parts_of c.self.inside) c.reserve.new.self c.reserve.ensures.same)

pub returns-clause-not_less : goal.returns-clause-not_less
returns-clause-not_less c = rw (← c.self.view_is) (wires_less (parts_of c.self.inside) c.reserve.new.self c.reserve.ensures.not_less)

pub returns-clause-ok : goal.returns-clause-ok
unfolding channel_spare
returns-clause-ok c = c.reserve.ensures.ok
