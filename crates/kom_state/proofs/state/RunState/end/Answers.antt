use Rattle.std.proofs.Common.{◌∙◌}
use Rattle.kom_state.specs.Insides.{parts_of}
use Rattle.kom_state.proofs.Conditions.{linked}
use Rattle.kom_state.proofs.Reading.{end_is}
use Rattle.kom_state.proofs.state.RunState.end.Goals as goal

pub end-requires : goal.end-requires
end-requires c = linked (parts_of c.self.inside) c.args.x (rw (← c.self.view_is) at c.requires)

pub returns : goal.returns
returns c = rw (← c.self.view_is) (c.end.ensures ∙ end_is (parts_of c.self.inside) c.args.x c.args.end)
