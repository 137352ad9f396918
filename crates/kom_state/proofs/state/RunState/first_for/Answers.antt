use Rattle.kom_state.specs.Insides.{parts_of}
use Rattle.kom_state.proofs.FirstFronts.{is_first}
use Rattle.kom_state.proofs.state.RunState.first_for.Goals as goal

pub returns : goal.returns
returns c = rw (← c.self.view_is) (is_first (parts_of c.self.inside) c.self.invariant c.args.c c.first_at.result c.first_at.ensures)
