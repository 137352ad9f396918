use Rattle.std.proofs.Common.{◌∙◌, ap, subst, sym, take}
use Rattle.kom_nursery.proofs.Broods.{IsSoFar, creatable_at, next_part, none_added, none_counted, one_effect, some_added, some_counted}
use Rattle.kom_nursery.proofs.nursery.Nursery.of.Goals as goal
use Rattle.kom_nursery.proofs.nursery.Nursery.of.Goals.{in-Some+in_ok-push, in_default}

pub brood_for-requires-clause-fits : goal.brood_for-requires-clause-fits
brood_for-requires-clause-fits c = creatable_at c.args.system.now.declarations c.args.depth c.args.effects.now c.loop-k.k c.index-effects-k.result c.loop-k-test.true c.index-effects-k.is c.requires.fits

pub loop-k-preserved : goal.loop-k-preserved
loop-k-preserved c =
    let S = c.args.system.now.declarations in
    let es = take c.loop-k.k c.args.effects.now in
    let e = c.index-effects-k.result in
    let o = c.in_ok-brood.field-0 in
    subst (λ l. IsSoFar S c.args.c c.args.depth c.args.first l c.match-branch-2.number c.match-branch-2.broods.items) (sym (next_part c.args.effects.now c.loop-k.k e c.loop-k-test.true c.index-effects-k.is))
    (one_effect S c.args.c c.args.depth c.args.first es c.loop-k.number c.loop-k.broods.items e o c.match-branch-2.number c.match-branch-2.broods.items c.loop-k.invariant c.in_ok-brood.ensures.few c.in_ok-brood.ensures.few_channels c.in_ok-brood.ensures.brood
    (elim c.match-branch-2.branch [
      | in-Some+in_ok-push w ↦ some_counted o w.in-Some.brood c.match-branch-2.number c.loop-k.number w.len.result w.in-Some.is w.number-is w.len.ensures
      | in_default w ↦ none_counted o c.match-branch-2.number c.loop-k.number w.in_default.is w.number-is
    ])
    (elim c.match-branch-2.branch [
      | in-Some+in_ok-push w ↦ some_added o w.in-Some.brood c.match-branch-2.broods.items c.loop-k.broods.items w.in-Some.is (ap (λ v. v.items) w.broods-is ∙ w.in_ok-push.ensures.items)
      | in_default w ↦ none_added o c.match-branch-2.broods.items c.loop-k.broods.items w.in_default.is (ap (λ v. v.items) w.broods-is)
    ]))
