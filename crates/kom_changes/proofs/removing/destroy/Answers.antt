use Rattle.kom_changes.proofs.Below.{removal_marked}
use Rattle.kom_changes.proofs.removing.destroy.Goals as goal

pub returns-clause-marks : goal.returns-clause-marks
returns-clause-marks c = removal_marked c.args.state.now c.holds_together.ensures c.remove.new.self c.args.marks.now c.mark_below.new.marks c.args.c c.args.slot c.removals_leave.ensures c.requires.ends c.remove.ensures.step
    (record { each = c.mark_below.ensures.each; few = c.mark_below.ensures.few; bound = c.mark_below.ensures.bound })
