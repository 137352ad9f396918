use Rattle.std.proofs.Common.{true, false, refl}
use Rattle.kompics.specs.Runs.{by_workers}
use Rattle.kompics.specs.Top.{of_files, to_work}
use Rattle.kompics.proofs.Finding.{of_run}
use Rattle.kompics.proofs.answer.answer_workers.Goals as goal

pub returns-in-Ok-clause-answer : goal.returns-in-Ok-clause-answer
returns-in-Ok-clause-answer g c = λ words is.
    let s = c.args.asked.now.system.now in
    let z = c.args.asked.now.scenario.now in
    let n = c.args.asked.now.workers in
    of_run true _ _ words _ _ (g.S.Shelf.count c.load_both.new.shelf) (by_workers n) false _ _ _ (of_files (by_workers n) s z (to_work refl s z n c.requires.0 c.requires.1 is)) c.in-Ok.ensures.answer.system
    _ c.crewed.result c.in-Ok.ensures.answer.plan c.crewed.ensures

pub returns-in-Err-clause-answer : goal.returns-in-Err-clause-answer
returns-in-Err-clause-answer g c = λ words is.
    c.in-Err.ensures.answer true words (by_workers c.args.asked.now.workers) (to_work refl _ _ _ c.requires.0 c.requires.1 is)
