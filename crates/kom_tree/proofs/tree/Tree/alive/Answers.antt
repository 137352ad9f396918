use Rattle.std.proofs.Common.{sym, ap, ◌∙◌}
use Rattle.kom_tree.specs.Forest.{Forest, is_alive}
use Rattle.kom_tree.specs.Parts.{lives}
use Rattle.kom_tree.proofs.Views.{alive_is}
use Rattle.kom_tree.proofs.tree.Tree.alive.Goals as goal

pub returns : goal.returns
returns c =
    let i = c.self.inside in
    c.is_living.ensures ∙ ap (λ bs. lives bs c.args.c) c.deref.ensures.value ∙ sym (alive_is i.family.origins.items i.living.items c.self.invariant.forest c.args.c) ∙ ap (λ (t : Forest). is_alive t.instances c.args.c) c.self.view_is
