use Rattle.std.proofs.Common.{sym, ◌∙◌}
use Rattle.kom_trace.proofs.Ended.{finished_is, ends_finished, ends_unfinished}
use Rattle.kom_trace.proofs.ends.add_end.Goals as goal

pub returns-in_ok-add_end_lines : goal.returns-in_ok-add_end_lines
returns-in_ok-add_end_lines c S P h l m =
    ends_finished S c.args.plan.now P c.args.text.now c.add_end_lines.new.text (sym (finished_is S c.args.plan.now P c.args.counts.now c.args.tally.now h m l) ∙ sym c.is_finished.ensures ∙ c.if-is_finished.true)
    (c.in_ok-add_end_lines.ensures S c.args.plan.now P h m)

pub returns-else-is_finished : goal.returns-else-is_finished
returns-else-is_finished c S P h l m =
    ends_unfinished S c.args.plan.now P c.args.text.now (sym (finished_is S c.args.plan.now P c.args.counts.now c.args.tally.now h m l) ∙ sym c.is_finished.ensures ∙ c.if-is_finished.false)
