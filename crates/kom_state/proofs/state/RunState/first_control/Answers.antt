use Rattle.std.proofs.Common.{◌∙◌, sym}
use Rattle.kom_state.specs.Insides.{parts_of}
use Rattle.kom_state.proofs.Conditions.{living_row, item_is}
use Rattle.kom_state.proofs.state.RunState.first_control.Goals as goal

pub first-requires : goal.first-requires
first-requires c = living_row (parts_of c.self.inside) c.args.c c.self.invariant (rw (← c.self.view_is) at c.requires)

pub returns : goal.returns
returns c = rw (← c.self.view_is) (c.first.ensures ∙ sym (item_is (parts_of c.self.inside) c.args.c))
