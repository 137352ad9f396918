use Rattle.std.proofs.Common.{◌≡◌, ℕ, Bool, List, Option, Some, None, sym, ap, ◌∙◌, length, arith}
use Rattle.kom_tree.specs.declared.family.Origin.{Origin}
use Rattle.kom_tree.specs.Forest.{is_under, IsLivingChild}
use Rattle.kom_tree.specs.Parts.{newest, IsForest}
use Rattle.kom_tree.proofs.Views.{all, alive_is, parent_is, lives_within, not_true}
use Rattle.kom_tree.proofs.Chains.{newest_is, newest_above}
use Rattle.kom_tree.proofs.tree.Tree.youngest.Goals as goal

living_child : (os : List Origin) (bs : List Bool) (f : IsForest os bs) (p : ℕ) (o : Option ℕ) → newest os bs p (length os) ≡ o → IsLivingChild (all os bs f) p o
living_child os bs f p None e = λ c h. not_true _ (λ u.
    let life = sym (alive_is os bs f c) ∙ h in
    let up = sym (ap (is_under p) (parent_is os bs f c)) ∙ u in
    let more = newest_above os bs p (length os) c (life, up) (omega (arith, f.marks, lives_within bs c life)) in
    cc (e, more.1))
living_child os bs f p (Some c) e =
    let is = newest_is os bs p (length os) c e in
    (alive_is os bs f c ∙ is.0.0, ap (is_under p) (parent_is os bs f c) ∙ is.0.1)

pub child_of-requires : goal.child_of-requires
child_of-requires c =
    let i = c.self.inside in
    let life = sym (alive_is i.family.origins.items i.living.items c.self.invariant.forest c.args.c) ∙ (rw (← c.self.view_is) at c.requires) in
    omega (arith, c.self.invariant.chained.long, c.self.invariant.forest.marks, lives_within i.living.items c.args.c life)

pub returns : goal.returns
returns c =
    let i = c.self.inside in
    let life = sym (alive_is i.family.origins.items i.living.items c.self.invariant.forest c.args.c) ∙ (rw (← c.self.view_is) at c.requires) in
    rw (← c.self.view_is) (living_child i.family.origins.items i.living.items c.self.invariant.forest c.args.c c.child_of.result (sym (c.self.invariant.chained.youngest c.args.c life) ∙ sym c.child_of.ensures))
