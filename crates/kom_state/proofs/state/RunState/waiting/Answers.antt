use Rattle.std.proofs.Common.{◌∙◌}
use Rattle.kom_state.specs.Insides.{parts_of}
use Rattle.kom_state.proofs.Conditions.{queue_there, length_is}
use Rattle.kom_state.proofs.state.RunState.waiting.Goals as goal

pub waiting-requires : goal.waiting-requires
waiting-requires c = queue_there (parts_of c.self.inside) c.args.x c.args.d (rw (← c.self.view_is) at c.requires)

pub returns : goal.returns
returns c = rw (← c.self.view_is) (c.waiting.ensures ∙ length_is (parts_of c.self.inside) c.args.x c.args.d (rw (← c.self.view_is) at c.requires))
