use Rattle.kompics.specs.Top.{to_print, at_printed}
use Rattle.kompics.proofs.Finding.{stands, no_system, of_text}
use Rattle.kompics.proofs.answer.answer_print.Goals as goal

pub returns-in-Ok-clause-answer : goal.returns-in-Ok-clause-answer
returns-in-Ok-clause-answer g c = λ has_workers words is.
    of_text has_workers _ _ words (g.S.Shelf.file c.args.shelf.now) _ _ c.args.form c.args.name.now c.in-Ok.system c.printed.result is
    (stands (g.S.Shelf.file c.args.shelf.now c.args.name.now) c.load_system.result c.in-Ok.system c.in-Ok.ensures c.load_system.ensures.answer) c.printed.ensures

pub returns-in-Err-clause-answer : goal.returns-in-Err-clause-answer
returns-in-Err-clause-answer g c = λ has_workers words is.
    no_system has_workers _ _ words (g.S.Shelf.file c.args.shelf.now) _ _ (g.S.Shelf.file c.args.shelf.now c.args.name.now) c.load_system.result c.in-Err.answer
    (to_print c.args.form c.args.name.now is) c.load_system.ensures.answer (λ e. at_printed c.args.form c.args.name.now is (c.load_system.ensures.fault e)) c.in-Err.ensures
