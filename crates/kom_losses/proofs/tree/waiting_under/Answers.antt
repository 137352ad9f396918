use Rattle.std.proofs.Common.{sym, ◌∙◌}
use Rattle.kom_changes.proofs.Below.{child_of}
use Rattle.kom_losses.proofs.Spans.{under_none, under_some}
use Rattle.kom_losses.proofs.tree.waiting_under.Goals as goal

pub waiting_tree-requires-clause-younger : goal.waiting_tree-requires-clause-younger
waiting_tree-requires-clause-younger c = (child_of c.args.state.now c.holds_together.ensures c.args.c c.args.slot c.in-Some.top (sym c.child.ensures ∙ c.in-Some.is)).1

pub returns-in-Some : goal.returns-in-Some
returns-in-Some c = c.waiting_tree.ensures ∙ under_some c.args.state.now c.holds_together.ensures c.args.c c.args.slot c.in-Some.top (sym c.child.ensures ∙ c.in-Some.is)

pub returns-in-None : goal.returns-in-None
returns-in-None c = under_none c.args.state.now c.holds_together.ensures c.args.c c.args.slot (sym c.child.ensures ∙ c.in-None.is)
