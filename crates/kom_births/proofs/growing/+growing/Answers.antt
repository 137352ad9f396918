use Rattle.std.proofs.Common.{ap, ◌∙◌, inr, arith}
use Rattle.kom_births.proofs.Trees.{alone, with_children, trees_more, trees_all}
use Rattle.kom_births.proofs.growing.+growing.Goals as goal

pub grow-returns-then-kind-kinds : goal.grow-returns-then-kind-kinds
grow-returns-then-kind-kinds t c = alone c.args.system.now.declarations c.args.number c.args.levels c.args.top c.args.sprouts.now.items c.push.new.self.items (inr (omega (arith, c.if-kind-kinds.true, c.kinds.ensures))) c.in_ok-push.ensures.items

pub grow-returns : goal.grow-returns
grow-returns t c = with_children c.args.system.now.declarations c.args.number c.args.levels _ c.args.top c.args.sprouts.now.items c.push.new.self.items c.grow_children.new.sprouts.items (omega (arith, c.if-levels-eq0.false)) (omega arith) c.in_ok-push.ensures.items c.in_ok-grow_children.ensures

pub grow_children-loop-s-preserved : goal.grow_children-loop-s-preserved
grow_children-loop-s-preserved t c = trees_more c.args.system.now.declarations c.args.number c.args.levels c.args.parent c.args.depth c.as_slice-slots.result.now c.loop-s.s c.index-slots-s.result c.args.sprouts.now.items c.loop-s.sprouts.items c.grow_child.new.sprouts.items (omega (arith, c.loop-s-test.true)) c.index-slots-s.is c.loop-s.invariant
    (c.in_ok-grow_child.ensures c.args.depth (omega arith))

pub grow_children-returns : goal.grow_children-returns
grow_children-returns t c = trees_all c.args.system.now.declarations c.args.number c.args.levels c.args.parent c.args.depth c.as_slice-slots.result.now _ c.loop-s.s c.args.sprouts.now.items c.loop-s.sprouts.items (c.as_slice-slots.ensures ∙ ap (λ k. k.slots) c.kind.ensures.value) (omega (arith, c.loop-s-test.false)) c.loop-s.invariant
