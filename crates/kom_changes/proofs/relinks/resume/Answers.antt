use Rattle.std.proofs.Common.{refl, false}
use Rattle.kom_refine.specs.Steps.{with_held}
use Rattle.kom_changes.proofs.Relinked.{ends_marked}
use Rattle.kom_changes.proofs.relinks.resume.Goals as goal

pub returns-clause-marks : goal.returns-clause-marks
returns-clause-marks c = ends_marked c.args.state.now c.resume.new.self c.args.marks.now c.mark_ends.new.marks c.channel-x.result (with_held false) c.relinks_leave.ensures c.holds_together.ensures c.holds_together-2.ensures c.resume.ensures.step
    (λ l. (refl, refl)) c.mark_ends.ensures.each c.mark_ends.ensures.few c.mark_ends.ensures.bound
