use Rattle.std.proofs.Common.{false}
use Rattle.kompics.specs.Runs.{simulated}
use Rattle.kompics.specs.Top.{of_files, to_simulate}
use Rattle.kompics.proofs.Finding.{of_run}
use Rattle.kompics.proofs.answer.answer_sim.Goals as goal

pub returns-in-Ok-clause-answer : goal.returns-in-Ok-clause-answer
returns-in-Ok-clause-answer g c = λ has_workers words is.
    let s = c.args.system_name.now in
    let z = c.args.scenario_name.now in
    of_run has_workers _ _ words _ _ _ simulated false _ _ _ (of_files simulated s z (to_simulate s z is)) c.in-Ok.ensures.answer.system
    _ c.answer_run.result c.in-Ok.ensures.answer.plan c.answer_run.ensures

pub returns-in-Err-clause-answer : goal.returns-in-Err-clause-answer
returns-in-Err-clause-answer g c = λ has_workers words is. c.in-Err.ensures.answer has_workers words simulated (to_simulate _ _ is)
