use Rattle.kom_state.specs.Insides.{parts_of}
use Rattle.kom_state.proofs.Together.{holds_together}
use Rattle.kom_state.proofs.state.RunState.holds_together.Goals as goal

pub returns : goal.returns
returns c = rw (← c.self.view_is) (holds_together (parts_of c.self.inside) c.self.invariant c.well_grown.ensures)
