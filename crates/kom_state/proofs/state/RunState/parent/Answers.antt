use Rattle.std.proofs.Common.{◌∙◌, ap}
use Rattle.kom_base.specs.Lists.{first}
use Rattle.kom_state.specs.Insides.{parts_of}
use Rattle.kom_state.proofs.Reading.{made, line_is}
use Rattle.kom_state.proofs.state.RunState.parent.Goals as goal

pub parent-requires : goal.parent-requires
parent-requires c = made (parts_of c.self.inside) c.args.c (rw (← c.self.view_is) at c.requires)

pub returns : goal.returns
returns c = rw (← c.self.view_is) (c.parent.ensures.value ∙ ap first (line_is (parts_of c.self.inside) c.args.c))
