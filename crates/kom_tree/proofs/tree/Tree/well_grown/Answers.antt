use Rattle.kom_tree.proofs.Views.{is_grown}
use Rattle.kom_tree.proofs.tree.Tree.well_grown.Goals as goal

pub returns : goal.returns
returns c =
    let i = c.self.inside in
    rw (← c.self.view_is) (is_grown i.family.origins.items i.living.items c.self.invariant.forest)
