use Rattle.std.proofs.Common.{◌∙◌, arith}
use Rattle.kom_tree.proofs.Chains.{hangs_from}
use Rattle.kom_tree.proofs.Unlinking.{unlinked_head, unlinked_after}
use Rattle.kom_tree.proofs.fell.unlink.Goals as goal

pub returns-in-None : goal.returns-in-None
returns-in-None c =
    let os = c.args.family.now.origins.items in
    let ls = c.args.family.now.links.items in
    let s = c.set_child.ensures in
    let after = c.sibling_of-after.ensures in
    let chain = unlinked_head os c.args.living.now ls c.requires.forest c.requires.chained c.args.parent c.args.gone c.requires.alive c.requires.child c.set_child.new.family.links.items s.keeps.long
    c.in-None.ensures (s.here ∙ after) s.others s.siblings c.requires.parent_alive in
    let up = hangs_from os c.args.parent c.args.gone c.requires.child in
    record {
      keeps = s.keeps;
      chained = rw s.keeps.origins chain;
      own = s.others c.args.gone (λ e. absurd (omega (arith, e, c.requires.forest.older c.args.gone (c.args.parent, up.0) up.1)));
    }

pub returns-in-Some : goal.returns-in-Some
returns-in-Some c =
    let os = c.args.family.now.origins.items in
    let ls = c.args.family.now.links.items in
    let s = c.set_sibling.ensures in
    let after = c.sibling_of-after.ensures in
    let chain = unlinked_after os c.args.living.now ls c.requires.forest c.requires.chained c.args.parent c.args.gone c.requires.alive c.requires.child c.set_sibling.new.family.links.items s.keeps.long
    c.in-Some.c c.in-Some.ensures.0 c.in-Some.ensures.1 c.in-Some.ensures.2 (s.here ∙ after) s.others s.children c.requires.parent_alive in
    record { keeps = s.keeps; chained = rw s.keeps.origins chain; own = s.children c.args.gone }
