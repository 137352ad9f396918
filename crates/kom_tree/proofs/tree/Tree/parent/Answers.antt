use Rattle.std.proofs.Common.{length, sym, ap, ◌∙◌, arith}
use Rattle.kom_tree.specs.Forest.{Forest, parent_of}
use Rattle.kom_tree.proofs.Views.{parent_is, line_is, root_is, parent_older, parent_living, length-all}
use Rattle.kom_tree.proofs.tree.Tree.parent.Goals as goal

pub parent_in-requires : goal.parent_in-requires
parent_in-requires c =
    let i = c.self.inside in
    omega (arith, c.requires, ap (λ (t : Forest). length t.instances) c.self.view_is, length-all i.family.origins.items i.living.items c.self.invariant.forest)

pub returns-clause-value : goal.returns-clause-value
returns-clause-value c =
    let i = c.self.inside in
    c.parent_in.ensures ∙ sym (parent_is i.family.origins.items i.living.items c.self.invariant.forest c.args.c) ∙ ap (λ (t : Forest). parent_of t.instances c.args.c) c.self.view_is

pub returns-clause-root : goal.returns-clause-root
returns-clause-root c =
    let i = c.self.inside in
    rw c.parent_in.ensures (root_is i.family.origins.items i.living.items c.self.invariant.forest c.args.c (omega (arith, c.requires, ap (λ (t : Forest). length t.instances) c.self.view_is, length-all i.family.origins.items i.living.items c.self.invariant.forest)))

pub returns-clause-older : goal.returns-clause-older
returns-clause-older c =
    let i = c.self.inside in
    rw c.parent_in.ensures (parent_older i.family.origins.items i.living.items c.self.invariant.forest c.args.c)

pub returns-clause-living : goal.returns-clause-living
returns-clause-living c =
    let i = c.self.inside in
    rw (c.parent_in.ensures, ← c.self.view_is) (parent_living i.family.origins.items i.living.items c.self.invariant.forest c.args.c)

pub returns-clause-line : goal.returns-clause-line
returns-clause-line c =
    let i = c.self.inside in
    rw (c.parent_in.ensures, ← c.self.view_is) (line_is i.family.origins.items i.living.items c.self.invariant.forest c.args.c)
