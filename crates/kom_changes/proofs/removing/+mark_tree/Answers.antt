use Rattle.std.proofs.Common.{◌+◌, ◌∙◌, sym, subst, arith}
use Rattle.kom_state.specs.Parts.{state_of}
use Rattle.kom_changes.specs.Below.{lives_in, lives_in_first}
use Rattle.kom_changes.proofs.Below.{child_of, MarksMore, mark_all, mark_first, mark_more, same_first, same_marks, within_slots}
use Rattle.kom_changes.proofs.removing.+mark_tree.Goals as goal
use Rattle.kom_changes.proofs.removing.+mark_tree.Goals.{in-Some, in_default}

pub loop-s-init : goal.loop-s-init
loop-s-init t c =
    let k = mark_first c.args.state.now c.holds_together.ensures c.args.d c.args.marks.now c.mark.new.marks c.requires.living c.mark.ensures.each c.mark.ensures.few c.mark.ensures.bound in
    record { each = k.each; few = k.few; bound = k.bound }

pub mark_tree-requires : goal.mark_tree-requires
mark_tree-requires t c =
    let q = child_of c.args.state.now c.holds_together.ensures c.args.d c.loop-s.s c.in-Some.child (sym c.child.ensures ∙ c.in-Some.is) in
    let younger = q.1 in
    let made = q.2 in
    let below = c.requires.younger in
    let less = c.decreases in
    let bound = c.requires.bound in
    let same = c.loop-s.invariant.bound in
    (omega (arith, less, younger, made), (q.0, (omega (arith, below, younger), (c.requires.children, omega (arith, bound, same)))))

pub loop-s-preserved : goal.loop-s-preserved
loop-s-preserved t c = elim c.match-child.branch [
  | in-Some w ↦ (
      let v = c.args.state.now in
      let now : MarksMore v c.holds_together.ensures (lives_in_first (state_of v) c.args.d c.loop-s.s) c.args.marks.now c.loop-s.marks = record { each = c.loop-s.invariant.each; few = c.loop-s.invariant.few; bound = c.loop-s.invariant.bound } in
      let tree : MarksMore v c.holds_together.ensures (lives_in (state_of v) w.in-Some.child) c.loop-s.marks w.mark_tree.new.marks = record { each = w.mark_tree.ensures.each; few = w.mark_tree.ensures.few; bound = w.mark_tree.ensures.bound } in
      let k = subst (MarksMore v c.holds_together.ensures (lives_in_first (state_of v) c.args.d (c.loop-s.s + 1)) c.args.marks.now) (sym w.marks-is)
      (mark_more v c.holds_together.ensures c.args.d c.loop-s.s w.in-Some.child c.args.marks.now c.loop-s.marks w.mark_tree.new.marks (sym c.child.ensures ∙ w.in-Some.is) now tree) in
      record { each = k.each; few = k.few; bound = k.bound })
  | in_default w ↦ (
      let v = c.args.state.now in
      let now : MarksMore v c.holds_together.ensures (lives_in_first (state_of v) c.args.d c.loop-s.s) c.args.marks.now c.loop-s.marks = record { each = c.loop-s.invariant.each; few = c.loop-s.invariant.few; bound = c.loop-s.invariant.bound } in
      let k = subst (MarksMore v c.holds_together.ensures (lives_in_first (state_of v) c.args.d (c.loop-s.s + 1)) c.args.marks.now) (sym w.marks-is)
      (same_marks v c.holds_together.ensures (lives_in_first (state_of v) c.args.d c.loop-s.s) (lives_in_first (state_of v) c.args.d (c.loop-s.s + 1)) c.args.marks.now c.loop-s.marks
      (same_first v c.holds_together.ensures c.args.d c.loop-s.s (sym c.child.ensures ∙ w.in_default.is)) now) in
      record { each = k.each; few = k.few; bound = k.bound })
]

pub returns-clause-each : goal.returns-clause-each
returns-clause-each t c =
    (mark_all c.args.state.now c.holds_together.ensures c.args.d c.loop-s.s c.args.marks.now c.loop-s.marks c.requires.living
    (within_slots c.args.state.now c.holds_together.ensures c.args.c c.args.d c.slot_count-s-end.result c.loop-s.s c.requires.children c.requires.living c.requires.younger c.slot_count-s-end.ensures.slots c.loop-s-test.false)
    (record { each = c.loop-s.invariant.each; few = c.loop-s.invariant.few; bound = c.loop-s.invariant.bound })).each

pub returns-clause-few : goal.returns-clause-few
returns-clause-few t c =
    (mark_all c.args.state.now c.holds_together.ensures c.args.d c.loop-s.s c.args.marks.now c.loop-s.marks c.requires.living
    (within_slots c.args.state.now c.holds_together.ensures c.args.c c.args.d c.slot_count-s-end.result c.loop-s.s c.requires.children c.requires.living c.requires.younger c.slot_count-s-end.ensures.slots c.loop-s-test.false)
    (record { each = c.loop-s.invariant.each; few = c.loop-s.invariant.few; bound = c.loop-s.invariant.bound })).few
