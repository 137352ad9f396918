use Rattle.kom_state.specs.Insides.{parts_of}
use Rattle.kom_state.proofs.Halves.{are_at_half}
use Rattle.kom_state.proofs.state.RunState.channels_at.Goals as goal

pub returns : goal.returns
returns c = rw (← c.self.view_is, c.at_half.ensures.channels) (are_at_half (parts_of c.self.inside) c.args.half c.at_half.ensures.rises)
