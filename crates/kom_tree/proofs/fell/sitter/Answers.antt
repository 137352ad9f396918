use Rattle.std.proofs.Common.{◌≡◌, ◌≢◌, length, refl, sym, ap, ◌∙◌, arith}
use Rattle.kom_tree.specs.Forest.{hangs_in}
use Rattle.kom_tree.specs.Parts.{lives, parent_at}
use Rattle.kom_tree.proofs.Views.{lives_within, both_left, both_right, in_slot, not_true}
use Rattle.kom_tree.proofs.Chains.{hangs_from, newest_is, place_newest}
use Rattle.kom_tree.proofs.Ending.{ahead_of_all, ahead_of_next}
use Rattle.kom_tree.proofs.fell.sitter.Goals as goal

pub returns-then-not-is_living : goal.returns-then-not-is_living
returns-then-not-is_living c = λ k. not_true _ (λ e.
    let os = c.args.family.now.origins.items in
    let up = in_slot c.args.parent c.args.slot (parent_at os k) (both_right (lives c.args.living.now k) _ e) in
    cc (c.requires.forest.rooted k (c.args.parent, c.args.slot) (both_left _ _ e) up))

pub loop-next-init : goal.loop-next-init
loop-next-init c =
    let os = c.args.family.now.origins.items in
    let ls = c.args.family.now.links.items in
    let bs = c.args.living.now in
    let p = c.args.parent in
    let head = c.requires.chained.youngest p (cc) in
    record {
      ahead = λ k h. rw c.child_of-next.ensures (ahead_of_all os p bs ls c.requires.forest.marks c.requires.chained p k (p, c.args.slot) head (both_left _ _ h) (in_slot p c.args.slot (parent_at os k) (both_right _ _ h)) refl);
      heading = λ d e. (newest_is os bs p (length os) d (sym head ∙ sym c.child_of-next.ensures ∙ e)).0;
    }

pub was_made_in-requires : goal.was_made_in-requires
was_made_in-requires c = omega (arith, c.requires.forest.marks, lives_within c.args.living.now c.in-Some.c (c.loop-next.invariant.heading c.in-Some.c c.in-Some.is).0)

pub sibling_of-next-requires : goal.sibling_of-next-requires
sibling_of-next-requires c = omega (arith, c.requires.forest.marks, c.requires.chained.long, lives_within c.args.living.now c.in-Some.c (c.loop-next.invariant.heading c.in-Some.c c.in-Some.is).0)

pub loop-next-preserved : goal.loop-next-preserved
loop-next-preserved c =
    let os = c.args.family.now.origins.items in
    let ls = c.args.family.now.links.items in
    let bs = c.args.living.now in
    let p = c.args.parent in
    let here = c.loop-next.invariant.heading c.in-Some.c c.in-Some.is in
    let up = hangs_from os p c.in-Some.c here.1 in
    let down = c.requires.chained.next c.in-Some.c (p, up.0) here.0 up.1 in
    record {
      ahead = λ k h.
          let ahead = rw c.in-Some.is at c.loop-next.invariant.ahead k h in
          let at : c.in-Some.c ≡ ahead.at = cc (ahead.is) in
          let other : k ≢ c.in-Some.c = λ e. cc (both_right (lives bs k) _ h, ap (λ x. hangs_in p c.args.slot (parent_at os x)) e) in
          rw c.sibling_of-next.ensures (ahead_of_next os p bs ls c.requires.forest.marks c.requires.chained c.in-Some.c k (p, c.args.slot) here.0 here.1 (both_left _ _ h) (in_slot p c.args.slot (parent_at os k) (both_right _ _ h)) (omega (arith, other, at, ahead.not_younger)));
      heading = λ d e. (newest_is os bs p c.in-Some.c d (sym down ∙ sym c.sibling_of-next.ensures ∙ e)).0;
    }

pub loop-next-smaller : goal.loop-next-smaller
loop-next-smaller c =
    let os = c.args.family.now.origins.items in
    let bs = c.args.living.now in
    let here = c.loop-next.invariant.heading c.in-Some.c c.in-Some.is in
    let up = hangs_from os c.args.parent c.in-Some.c here.1 in
    let down = c.requires.chained.next c.in-Some.c (c.args.parent, up.0) here.0 up.1 in
    rw (c.in-Some.is, c.sibling_of-next.ensures, down) (place_newest os bs c.args.parent c.in-Some.c)

pub returns : goal.returns
returns c = λ k. not_true _ (λ e. cc ((c.loop-next.invariant.ahead k e).is))
