use Rattle.std.proofs.Common.{◌≡◌, map, List, length, IfOk, refl, sym, ap, ◌∙◌}
use Rattle.std.specs.List.{filter}
use Rattle.kom_index.specs.Stock.{entries}
use Rattle.kom_env.specs.Waiting.{is_due}
use Rattle.kom_env.proofs.Finding.{numbers_are}
use Rattle.kom_env.proofs.agenda.Agenda.numbers_at.Goals as goal

pub returns-clause-numbers : goal.returns-clause-numbers
returns-clause-numbers c =
    let i = c.self.inside in
    let v = c.self.invariant in
    rw (← c.self.view_is) (numbers_are i.waits.0 i.dues.0 v.rises v.bounded v.by_due c.args.time c.keys_between.result c.keys_between.ensures)
