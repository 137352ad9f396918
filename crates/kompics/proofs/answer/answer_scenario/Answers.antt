use Rattle.kompics.proofs.Finding.{of_scenario}
use Rattle.kompics.proofs.answer.answer_scenario.Goals as goal

pub returns-in-Ok : goal.returns-in-Ok
returns-in-Ok c = λ has_workers words files before after is. of_scenario _ _ words files has_workers c.args.n c.in-Ok.text.items c.requires.some c.requires.most is c.in-Ok.ensures
