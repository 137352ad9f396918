use Rattle.std.proofs.Common.{◌∙◌, sym}
use Rattle.kom_state.specs.Insides.{parts_of}
use Rattle.kom_state.proofs.Creating.{count_is}
use Rattle.kom_state.proofs.state.RunState.instance_count.Goals as goal

pub returns : goal.returns
returns c = rw (← c.self.view_is) (c.instances.ensures ∙ c.self.invariant.numbered ∙ sym (count_is (parts_of c.self.inside) c.self.invariant))
