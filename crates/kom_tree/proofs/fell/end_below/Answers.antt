use Rattle.std.proofs.Common.{◌≡◌, ◌+◌, ◌*◌, ◌≤◌, [], ◌∷◌, length, refl, ◌∙◌, arith, length-append}
use Rattle.std.specs.List.{count_by}
use Rattle.kom_tree.proofs.Ending.{begin, skip, mark, next_pending, ended, count_one, head_within, less_work, place_small, fewer, next_lower, among_last, no_items}
use Rattle.kom_tree.proofs.Views.{lives_within}
use Rattle.kom_tree.proofs.fell.end_below.Goals as goal
use Rattle.kom_tree.proofs.fell.end_below.Goals.{then-is_living, else-is_living}

pub loop-next-init : goal.loop-next-init
loop-next-init c =
    let start = begin c.args.family.now.origins.items c.args.top c.args.living.now.items c.args.family.now.links.items c.requires.marks c.requires.chained c.requires.gone c.requires.first c.requires.rooted in
    record { ending = rw (c.requires.idle, c.child_of-next.ensures) start; room = omega arith; same = refl }

pub end_one-requires : goal.end_one-requires
end_one-requires c = head_within (rw c.in-Some.is at c.loop-next.invariant.ending)

pub put-requires : goal.put-requires
put-requires c =
    let one = count_one c.loop-next.living.items c.in-Some.c (cc) in
    omega (arith, c.loop-next.invariant.ending.room)

pub sibling_of-next-requires : goal.sibling_of-next-requires
sibling_of-next-requires c =
    let e = rw c.in-Some.is at c.loop-next.invariant.ending in
    omega (arith, head_within e, e.marks, c.requires.chained.long, c.requires.marks)

pub loop-next-preserved-in-Some : goal.loop-next-preserved-in-Some
loop-next-preserved-in-Some c =
    let e = rw c.in-Some.is at c.loop-next.invariant.ending in
    elim c.if-is_living.branch [
      | then-is_living w ↦
          let marked = mark c.args.family.now.origins.items c.args.top c.args.living.now.items c.args.family.now.links.items c.requires.marks c.requires.chained c.loop-next.living.items c.loop-next.pending.items c.in-Some.c e (cc) in
          record { ending = rw (w.living-is, w.pending-is, w.end_one.ensures.marks, w.put.ensures.items, c.sibling_of-next.ensures) marked; room = rw w.pending-is (omega (arith, c.loop-next.invariant.room, w.put.ensures.room)); same = rw w.living-is (w.end_one.ensures.room ∙ c.loop-next.invariant.same) }
      | else-is_living w ↦
          let skipped = skip c.args.family.now.origins.items c.args.top c.args.living.now.items c.args.family.now.links.items c.requires.marks c.requires.chained c.loop-next.living.items c.loop-next.pending.items c.in-Some.c e (cc) in
          record { ending = rw (w.living-is, w.pending-is, c.sibling_of-next.ensures) skipped; room = rw w.pending-is c.loop-next.invariant.room; same = rw w.living-is c.loop-next.invariant.same }
    ]

pub loop-next-smaller-in-Some : goal.loop-next-smaller-in-Some
loop-next-smaller-in-Some c =
    let e = rw c.in-Some.is at c.loop-next.invariant.ending in
    let after = (loop-next-preserved-in-Some c).ending in
    let small = place_small after in
    elim c.if-is_living.branch [
      | then-is_living w ↦
          let one = fewer c.loop-next.living.items c.in-Some.c (cc) in
          let less : (2 * count_by (λ b. b) c.if-is_living.living.items + length c.if-is_living.pending.items) + 1 ≤ 2 * count_by (λ b. b) c.loop-next.living.items + length c.loop-next.pending.items =
          rw (w.living-is, w.pending-is, w.end_one.ensures.marks, w.put.ensures.items) (omega (arith, one, length-append c.loop-next.pending.items (c.in-Some.c ∷ []))) in
          less_work _ _ (length c.args.living.now.items + 2) _ _ less small
      | else-is_living w ↦
          let low = next_lower c.args.family.now.origins.items c.args.top c.args.living.now.items c.args.family.now.links.items c.requires.marks c.requires.chained c.loop-next.living.items c.loop-next.pending.items c.in-Some.c e in
          rw (w.living-is, w.pending-is, c.in-Some.is, c.sibling_of-next.ensures) (omega (arith, low))
    ]

pub child_of-next-requires-in-Some-pop : goal.child_of-next-requires-in-Some-pop
child_of-next-requires-in-Some-pop c =
    let e = rw (c.in-None.is, c.in-Some-pop.ensures.items) at c.loop-next.invariant.ending in
    omega (arith, lives_within c.args.living.now.items c.in-Some-pop.c (e.waiting c.in-Some-pop.c (among_last c.pop.new.self.items c.in-Some-pop.c)).0, c.requires.chained.long, c.requires.marks)

pub loop-next-preserved : goal.loop-next-preserved
loop-next-preserved c =
    let e = rw (c.in-None.is, c.in-Some-pop.ensures.items) at c.loop-next.invariant.ending in
    let popped = next_pending c.args.family.now.origins.items c.args.top c.args.living.now.items c.args.family.now.links.items c.requires.marks c.requires.chained c.loop-next.living.items c.pop.new.self.items c.in-Some-pop.c e in
    record { ending = rw c.child_of-next-in-Some-pop.ensures popped; room = omega (arith, c.loop-next.invariant.room, c.pop.ensures.capacity); same = c.loop-next.invariant.same }

pub loop-next-smaller : goal.loop-next-smaller
loop-next-smaller c =
    let small = place_small (loop-next-preserved c).ending in
    let less : (2 * count_by (λ b. b) c.loop-next.living.items + length c.pop.new.self.items) + 1 ≤ 2 * count_by (λ b. b) c.loop-next.living.items + length c.loop-next.pending.items =
    rw c.in-Some-pop.ensures.items (omega (arith, length-append c.pop.new.self.items (c.in-Some-pop.c ∷ []))) in
    less_work _ _ (length c.args.living.now.items + 2) _ _ less small

pub returns-clause-ends : goal.returns-clause-ends
returns-clause-ends c =
    let none : c.loop-next.pending.items ≡ [] = no_items c.loop-next.pending.items (omega (arith, c.in-None-pop.ensures.cases)) in
    ended c.args.family.now.origins.items c.args.top c.args.living.now.items c.args.family.now.links.items c.requires.marks c.requires.chained c.loop-next.living.items [] (rw (c.in-None.is, none) at c.loop-next.invariant.ending)
