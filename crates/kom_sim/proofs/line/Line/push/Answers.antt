use Rattle.std.proofs.Common.{ap, ◌∙◌}
use Rattle.kom_sim.specs.Line.{last_of_each, at_end}
use Rattle.kom_sim.proofs.Counts.{last_at_end}
use Rattle.kom_sim.proofs.line.Line.push.Goals as goal

pub returns-clause-ok : goal.returns-clause-ok
returns-clause-ok c = ap last_of_each c.in_ok-push_back.ensures.items ∙ last_at_end c.self.inside.queue.items c.args.c ∙ ap (λ l. at_end l c.args.c) c.self.view_is
