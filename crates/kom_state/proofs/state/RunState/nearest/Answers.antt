use Rattle.std.proofs.Common.{◌∙◌}
use Rattle.kom_state.specs.Insides.{parts_of}
use Rattle.kom_state.proofs.Reading.{made, nearest_is}
use Rattle.kom_state.proofs.state.RunState.nearest.Goals as goal

pub nearest-requires : goal.nearest-requires
nearest-requires c = made (parts_of c.self.inside) c.args.c (rw (← c.self.view_is) at c.requires)

pub returns : goal.returns
returns c = rw (← c.self.view_is) (c.nearest.ensures ∙ nearest_is (parts_of c.self.inside) c.args.c)
