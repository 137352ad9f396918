use Rattle.std.proofs.Common.{◌∙◌}
use Rattle.kom_state.specs.Insides.{parts_of}
use Rattle.kom_state.proofs.Reading.{alive_is}
use Rattle.kom_state.proofs.state.RunState.alive.Goals as goal

pub returns : goal.returns
returns c = rw (← c.self.view_is) (c.alive.ensures ∙ alive_is (parts_of c.self.inside) c.args.c)
