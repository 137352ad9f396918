use Rattle.std.proofs.Common.{length, sym, ap, ◌∙◌, arith}
use Rattle.kom_tree.specs.Forest.{Forest, occupant}
use Rattle.kom_tree.proofs.Views.{sitter_is, sitter_made, length-all}
use Rattle.kom_tree.proofs.tree.Tree.child.Goals as goal

pub sitter-requires-clause-made : goal.sitter-requires-clause-made
sitter-requires-clause-made c =
    let i = c.self.inside in
    rw c.deref.ensures.value (omega (arith, c.requires, ap (λ (t : Forest). length t.instances) c.self.view_is, length-all i.family.origins.items i.living.items c.self.invariant.forest, c.self.invariant.forest.marks))

pub returns-clause-value : goal.returns-clause-value
returns-clause-value c =
    let i = c.self.inside in
    let s = rw c.deref.ensures.value at c.sitter.ensures in
    sym (sitter_is i.family.origins.items i.living.items c.self.invariant.forest c.args.c c.args.slot c.sitter.result s) ∙ ap (λ (t : Forest). occupant t.instances c.args.c c.args.slot) c.self.view_is

pub returns-clause-made : goal.returns-clause-made
returns-clause-made c =
    let i = c.self.inside in
    let s = rw c.deref.ensures.value at c.sitter.ensures in
    rw (← c.self.view_is) (sitter_made i.family.origins.items i.living.items c.self.invariant.forest c.args.c c.args.slot c.sitter.result s)
