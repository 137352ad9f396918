use Rattle.std.proofs.Common.{◌∙◌}
use Rattle.kom_state.specs.Insides.{parts_of}
use Rattle.kom_state.proofs.Reading.{made, child_is}
use Rattle.kom_state.proofs.state.RunState.child.Goals as goal

pub child-requires : goal.child-requires
child-requires c = made (parts_of c.self.inside) c.args.c (rw (← c.self.view_is) at c.requires)

pub returns : goal.returns
returns c = rw (← c.self.view_is) (c.child.ensures.value ∙ child_is (parts_of c.self.inside) c.args.c c.args.slot)
