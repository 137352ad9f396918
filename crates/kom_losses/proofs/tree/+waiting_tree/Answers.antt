use Rattle.std.proofs.Common.{◌+◌, ◌∙◌, sym, arith}
use Rattle.kom_changes.proofs.Below.{child_of, within_slots}
use Rattle.kom_changes.specs.Below.{lives_in_first}
use Rattle.kom_losses.specs.Owned.{owned}
use Rattle.kom_state.specs.Parts.{state_of}
use Rattle.kom_losses.proofs.Spans.{all, first_own, more, most, skip}
use Rattle.kom_losses.proofs.tree.+waiting_tree.Goals as goal
use Rattle.kom_losses.proofs.tree.+waiting_tree.Goals.{in-Some, in_default}

pub loop-s-init : goal.loop-s-init
loop-s-init t c = c.waiting_own-count.ensures ∙ first_own c.args.state.now c.holds_together.ensures c.args.d

pub waiting_tree-count-requires : goal.waiting_tree-count-requires
waiting_tree-count-requires t c =
    let q = child_of c.args.state.now c.holds_together.ensures c.args.d c.loop-s.s c.in-Some.child (sym c.child.ensures ∙ c.in-Some.is) in
    let younger = q.1 in
    let made = q.2 in
    let below = c.requires.younger in
    let less = c.decreases in
    (omega (arith, less, younger, made), (q.0, (omega (arith, below, younger), (c.requires.children, (c.requires.wires, c.requires.few)))))

pub overflow_add-count : goal.overflow_add-count
overflow_add-count t c =
    let v = c.args.state.now in
    let m = more v c.holds_together.ensures c.args.d c.loop-s.s c.in-Some.child (sym c.child.ensures ∙ c.in-Some.is) in
    let few = most v c.holds_together.ensures (owned v (lives_in_first (state_of v) c.args.d (c.loop-s.s + 1))) in
    let now = c.loop-s.invariant in
    let tree = c.waiting_tree-count.ensures in
    let all = c.requires.few in
    omega (arith, m, few, now, tree, all)

pub loop-s-preserved : goal.loop-s-preserved
loop-s-preserved t c = elim c.match-child.branch [
  | in-Some w ↦ (
      let m = more c.args.state.now c.holds_together.ensures c.args.d c.loop-s.s w.in-Some.child (sym c.child.ensures ∙ w.in-Some.is) in
      let now = c.loop-s.invariant in
      let tree = w.waiting_tree-count.ensures in
      let is = w.count-is in
      omega (arith, m, now, tree, is))
  | in_default w ↦ w.count-is ∙ skip c.args.state.now c.holds_together.ensures c.args.d c.loop-s.s c.loop-s.count (sym c.child.ensures ∙ w.in_default.is) c.loop-s.invariant
]

pub returns : goal.returns
returns t c = all c.args.state.now c.holds_together.ensures c.args.d c.loop-s.s c.loop-s.count c.requires.living
    (within_slots c.args.state.now c.holds_together.ensures c.args.c c.args.d c.slot_count-s-end.result c.loop-s.s c.requires.children c.requires.living c.requires.younger c.slot_count-s-end.ensures.slots c.loop-s-test.false) c.loop-s.invariant
