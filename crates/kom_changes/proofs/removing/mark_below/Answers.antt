use Rattle.std.proofs.Common.{◌∙◌, sym}
use Rattle.kom_changes.proofs.Below.{child_of, mark_slot, mark_nobody}
use Rattle.kom_changes.proofs.removing.mark_below.Goals as goal

pub mark_tree-requires-clause-younger : goal.mark_tree-requires-clause-younger
mark_tree-requires-clause-younger c = (child_of c.args.state.now c.holds_together.ensures c.args.c c.args.slot c.in-Some.top (sym c.child.ensures ∙ c.in-Some.is)).1

pub returns-in-Some-clause-each : goal.returns-in-Some-clause-each
returns-in-Some-clause-each c = (mark_slot c.args.state.now c.holds_together.ensures c.args.c c.args.slot c.in-Some.top c.args.marks.now c.mark_tree.new.marks (sym c.child.ensures ∙ c.in-Some.is)
    (record { each = c.mark_tree.ensures.each; few = c.mark_tree.ensures.few; bound = c.mark_tree.ensures.bound })).each

pub returns-in-Some-clause-few : goal.returns-in-Some-clause-few
returns-in-Some-clause-few c = (mark_slot c.args.state.now c.holds_together.ensures c.args.c c.args.slot c.in-Some.top c.args.marks.now c.mark_tree.new.marks (sym c.child.ensures ∙ c.in-Some.is)
    (record { each = c.mark_tree.ensures.each; few = c.mark_tree.ensures.few; bound = c.mark_tree.ensures.bound })).few

pub returns-in_default-clause-each : goal.returns-in_default-clause-each
returns-in_default-clause-each c = mark_nobody c.args.state.now c.holds_together.ensures c.args.c c.args.slot c.args.marks.now (sym c.child.ensures ∙ c.in_default.is)
