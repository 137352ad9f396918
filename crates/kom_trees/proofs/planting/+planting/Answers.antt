use Rattle.std.proofs.Common.{ap, ◌∙◌, inl, inr, arith}
use Rattle.kom_trees.proofs.Trees.{alone, with_children, trees_more, trees_all}
use Rattle.kom_trees.proofs.planting.+planting.Goals as goal

pub plant-returns-then-levels-eq0 : goal.plant-returns-then-levels-eq0
plant-returns-then-levels-eq0 n c = alone c.args.system.now.declarations c.args.number c.args.levels c.args.kind c.args.at c.args.nodes.now.items c.push.new.self.items (inl c.if-levels-eq0.true) c.in_ok-push.ensures.items

pub plant-returns-then-kind-kinds : goal.plant-returns-then-kind-kinds
plant-returns-then-kind-kinds n c = alone c.args.system.now.declarations c.args.number c.args.levels c.args.kind c.args.at c.args.nodes.now.items c.push.new.self.items (inr (omega (arith, c.if-kind-kinds.true, c.kinds.ensures))) c.in_ok-push.ensures.items

pub plant-returns : goal.plant-returns
plant-returns n c = with_children c.args.system.now.declarations c.args.number c.args.levels c.args.kind _ c.args.at c.args.nodes.now.items c.push.new.self.items c.plant_children.new.nodes.items (omega (arith, c.if-levels-eq0.false)) (omega arith) c.in_ok-push.ensures.items c.in_ok-plant_children.ensures

pub plant_children-loop-s-preserved : goal.plant_children-loop-s-preserved
plant_children-loop-s-preserved n c = trees_more c.args.system.now.declarations c.args.number c.args.levels c.args.parent c.as_slice-slots.result.now c.loop-s.s c.index-slots-s.result c.args.nodes.now.items c.loop-s.nodes.items c.plant_child.new.nodes.items (omega (arith, c.loop-s-test.true)) c.index-slots-s.is c.loop-s.invariant c.in_ok-plant_child.ensures

pub plant_children-returns : goal.plant_children-returns
plant_children-returns n c = trees_all c.args.system.now.declarations c.args.number c.args.levels c.args.parent c.as_slice-slots.result.now _ c.loop-s.s c.args.nodes.now.items c.loop-s.nodes.items (c.as_slice-slots.ensures ∙ ap (λ k. k.slots) c.kind.ensures.value) (omega (arith, c.loop-s-test.false)) c.loop-s.invariant
