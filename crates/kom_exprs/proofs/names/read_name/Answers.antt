use Rattle.std.proofs.Common.{sym}
use Rattle.kom_exprs.proofs.NameSteps.{name_is_reserved}
use Rattle.kom_exprs.proofs.names.read_name.Goals as goal

pub returns-else-is_name : goal.returns-else-is_name
returns-else-is_name c = λ _. name_is_reserved c.args.reader.now c.next_word.result c.in-Some.word c.in-Some.is c.next_word.ensures (sym (c.if-is_name.ensures {u = tt}))
