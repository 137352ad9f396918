use Rattle.std.proofs.Common.{◌+◌, ◌∙◌, sym, arith}
use Rattle.kom_changes.proofs.Below.{child_of, count_all, count_first, count_skip, few_first, more_first, within_slots}
use Rattle.kom_changes.proofs.removing.+count_tree.Goals as goal
use Rattle.kom_changes.proofs.removing.+count_tree.Goals.{in-Some, in_default}

pub loop-s-init : goal.loop-s-init
loop-s-init t c = count_first c.args.state.now c.holds_together.ensures c.args.d c.requires.living

pub count_tree-count-requires : goal.count_tree-count-requires
count_tree-count-requires t c =
    let q = child_of c.args.state.now c.holds_together.ensures c.args.d c.loop-s.s c.in-Some.child (sym c.child.ensures ∙ c.in-Some.is) in
    let younger = q.1 in
    let made = q.2 in
    let below = c.requires.younger in
    let less = c.decreases in
    (omega (arith, less, younger, made), (q.0, (omega (arith, below, younger), c.requires.children)))

pub overflow_add-count : goal.overflow_add-count
overflow_add-count t c =
    let more = more_first c.args.state.now c.holds_together.ensures c.args.d c.loop-s.s c.in-Some.child (sym c.child.ensures ∙ c.in-Some.is) in
    let few = few_first c.args.state.now c.holds_together.ensures c.args.d (c.loop-s.s + 1) in
    let now = c.loop-s.invariant in
    let tree = c.count_tree-count.ensures in
    let made = c.instance_count-made.ensures in
    omega (arith, more, few, now, tree, made)

pub loop-s-preserved : goal.loop-s-preserved
loop-s-preserved t c = elim c.match-child.branch [
  | in-Some w ↦ (
      let more = more_first c.args.state.now c.holds_together.ensures c.args.d c.loop-s.s w.in-Some.child (sym c.child.ensures ∙ w.in-Some.is) in
      let now = c.loop-s.invariant in
      let tree = w.count_tree-count.ensures in
      let is = w.count-is in
      omega (arith, more, now, tree, is))
  | in_default w ↦ w.count-is ∙ count_skip c.args.state.now c.holds_together.ensures c.args.d c.loop-s.s c.loop-s.count (sym c.child.ensures ∙ w.in_default.is) c.loop-s.invariant
]

pub returns : goal.returns
returns t c = count_all c.args.state.now c.holds_together.ensures c.args.d c.loop-s.s c.loop-s.count c.requires.living
    (within_slots c.args.state.now c.holds_together.ensures c.args.c c.args.d c.slot_count-s-end.result c.loop-s.s c.requires.children c.requires.living c.requires.younger c.slot_count-s-end.ensures.slots c.loop-s-test.false) c.loop-s.invariant
