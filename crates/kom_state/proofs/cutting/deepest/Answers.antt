use Rattle.std.proofs.Common.{◌∙◌, sym}
use Rattle.kom_state.proofs.Lines.{nobody}
use Rattle.kom_state.proofs.cutting.deepest.Goals as goal

pub returns-in-None-clause-deepest : goal.returns-in-None-clause-deepest
returns-in-None-clause-deepest c = nobody c.args.tree.now.instances c.well_grown.ensures c.args.c c.args.slot (sym c.child.ensures.value ∙ c.in-None.is)
