use Rattle.std.proofs.Common.{ap, ◌∙◌}
use Rattle.std.proofs.lemmas.List.{take_all}
use Rattle.kom_crew.specs.Seated.{given_in_all}
use Rattle.kom_crew.proofs.Counting.{all_counted}
use Rattle.kom_crew.proofs.seating.given_to_all.Goals as goal

pub returns-clause-lots : goal.returns-clause-lots
returns-clause-lots c = c.loop-worker.invariant ∙ ap given_in_all (take_all c.loop-worker.worker-index c.args.workers.now c.loop-worker-test.false) ∙ all_counted c.args.workers.now c.requires
