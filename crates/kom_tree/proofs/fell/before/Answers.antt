use Rattle.std.proofs.Common.{◌≡◌, ◌≢◌, true, length, refl, sym, ◌∙◌, subst, arith}
use Rattle.kom_tree.specs.Parts.{hangs_at}
use Rattle.std.proofs.lemmas.Bool.{eqb-true, eq-eqb}
use Rattle.kom_tree.proofs.Views.{lives_within}
use Rattle.kom_tree.proofs.Chains.{hangs_from, newest_is, place_newest}
use Rattle.kom_tree.proofs.Ending.{ahead_of_all, ahead_of_next}
use Rattle.kom_tree.proofs.fell.before.Goals as goal

pub loop-next-init : goal.loop-next-init
loop-next-init c =
    let os = c.args.family.now.origins.items in
    let ls = c.args.family.now.links.items in
    let bs = c.args.living.now in
    let up = hangs_from os c.args.parent c.args.child c.requires.child in
    let head = c.requires.chained.youngest c.args.parent c.requires.parent_alive in
    let start = ahead_of_all os c.args.parent bs ls c.requires.forest.marks c.requires.chained c.args.parent c.args.child (c.args.parent, up.0) head c.requires.alive up.1 refl in
    record {
      ahead = rw c.child_of-next.ensures start;
      trail = sym c.child_of-next.ensures;
      alive = λ d e. (newest_is os bs c.args.parent (length os) d (sym head ∙ sym c.child_of-next.ensures ∙ e)).0.0;
    }

pub returns-then-eq : goal.returns-then-eq
returns-then-eq c =
    let same : c.in-Some.c ≡ c.args.child = eqb-true c.in-Some.c c.args.child (cc) in
    rw (c.in-Some.is, same) at c.loop-next.invariant.trail

pub sibling_of-next-requires : goal.sibling_of-next-requires
sibling_of-next-requires c = omega (arith, c.requires.forest.marks, c.requires.chained.long, lives_within c.args.living.now c.in-Some.c (c.loop-next.invariant.alive c.in-Some.c c.in-Some.is))

-- where the chain leads from its next
pub loop-next-preserved : goal.loop-next-preserved
loop-next-preserved c =
    let os = c.args.family.now.origins.items in
    let ls = c.args.family.now.links.items in
    let bs = c.args.living.now in
    let ahead = rw c.in-Some.is at c.loop-next.invariant.ahead in
    let at : c.in-Some.c ≡ ahead.at = cc (ahead.is) in
    let alive = c.loop-next.invariant.alive c.in-Some.c c.in-Some.is in
    let hung = subst (λ x. hangs_at os c.args.parent x ≡ true) (sym at) ahead.hangs in
    let other : c.args.child ≢ c.in-Some.c = λ e. cc (eq-eqb c.in-Some.c c.args.child (sym e)) in
    let up = hangs_from os c.args.parent c.args.child c.requires.child in
    let upper = hangs_from os c.args.parent c.in-Some.c hung in
    let next = ahead_of_next os c.args.parent bs ls c.requires.forest.marks c.requires.chained c.in-Some.c c.args.child (c.args.parent, up.0) alive hung c.requires.alive up.1 (omega (arith, other, at, ahead.not_younger)) in
    let down = c.requires.chained.next c.in-Some.c (c.args.parent, upper.0) alive upper.1 in
    record {
      ahead = rw c.sibling_of-next.ensures next;
      trail = (alive, hung, sym c.sibling_of-next.ensures);
      alive = λ d e. (newest_is os bs c.args.parent c.in-Some.c d (sym down ∙ sym c.sibling_of-next.ensures ∙ e)).0.0;
    }

pub loop-next-smaller : goal.loop-next-smaller
loop-next-smaller c =
    let os = c.args.family.now.origins.items in
    let bs = c.args.living.now in
    let ahead = rw c.in-Some.is at c.loop-next.invariant.ahead in
    let at : c.in-Some.c ≡ ahead.at = cc (ahead.is) in
    let upper = hangs_from os c.args.parent c.in-Some.c (subst (λ x. hangs_at os c.args.parent x ≡ true) (sym at) ahead.hangs) in
    let down = c.requires.chained.next c.in-Some.c (c.args.parent, upper.0) (c.loop-next.invariant.alive c.in-Some.c c.in-Some.is) upper.1 in
    rw (c.in-Some.is, c.sibling_of-next.ensures, down) (place_newest os bs c.args.parent c.in-Some.c)

pub returns : goal.returns
returns c = absurd (cc (c.loop-next.invariant.ahead.is))
