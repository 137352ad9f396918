use Rattle.kom_state.specs.Parts.{state_of}
use Rattle.kom_state.proofs.state.RunState.body.Goals as goal

pub returns : goal.returns
unfolding state_of
returns c = rw (← c.self.view_is) c.get.ensures
