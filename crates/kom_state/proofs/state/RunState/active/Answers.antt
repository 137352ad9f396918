use Rattle.std.proofs.Common.{◌∙◌}
use Rattle.kom_state.specs.Insides.{parts_of}
use Rattle.kom_state.proofs.Reading.{active_is}
use Rattle.kom_state.proofs.state.RunState.active.Goals as goal

pub returns : goal.returns
returns c = rw (← c.self.view_is) (c.active.ensures ∙ active_is (parts_of c.self.inside) c.args.c)
