use Rattle.std.proofs.Common.{◌∙◌}
use Rattle.kom_begins.proofs.begins.sets_for.Goals as goal

pub returns : goal.returns
returns c = record {
  free = c.in_ok-busy.ensures.empty;
  unmarked = c.in_ok-marks.ensures.empty;
  tested = c.in_ok-runnable.ensures.tested;
  busy_bound = c.in_ok-busy.ensures.bound ∙ c.instance_count.ensures;
  runnable_bound = c.in_ok-runnable.ensures.bound;
  marks_bound = c.in_ok-marks.ensures.bound ∙ c.instance_count-2.ensures;
}
