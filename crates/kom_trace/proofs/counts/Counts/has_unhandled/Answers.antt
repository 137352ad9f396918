use Rattle.std.proofs.Common.{◌∙◌}
use Rattle.kom_trace.proofs.Counted.{counts_unhandled}
use Rattle.kom_trace.proofs.counts.Counts.has_unhandled.Goals as goal

pub returns : goal.returns
returns c = λ S P h. c.is_some.ensures ∙ counts_unhandled S c.args.self.now P h
