use Rattle.std.proofs.Common.{◌∙◌, sym}
use Rattle.kom_changes.proofs.Below.{child_of, count_slot, count_nobody}
use Rattle.kom_changes.proofs.removing.count_below.Goals as goal

pub count_tree-requires-clause-younger : goal.count_tree-requires-clause-younger
count_tree-requires-clause-younger c = (child_of c.args.state.now c.holds_together.ensures c.args.c c.args.slot c.in-Some.top (sym c.child.ensures ∙ c.in-Some.is)).1

pub returns-in-Some : goal.returns-in-Some
returns-in-Some c = c.count_tree.ensures ∙ sym (count_slot c.args.state.now c.holds_together.ensures c.args.c c.args.slot c.in-Some.top (sym c.child.ensures ∙ c.in-Some.is))

pub returns-in-None : goal.returns-in-None
returns-in-None c = sym (count_nobody c.args.state.now c.holds_together.ensures c.args.c c.args.slot (sym c.child.ensures ∙ c.in-None.is))
