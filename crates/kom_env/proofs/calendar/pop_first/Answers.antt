use Rattle.kom_index.specs.Stock.{entries}
use Rattle.kom_env.proofs.Placing.{none_first, some_first}
use Rattle.kom_env.proofs.calendar.pop_first.Goals as goal

pub returns-in-None-clause-first : goal.returns-in-None-clause-first
returns-in-None-clause-first c = none_first (entries c.args.raises.now) (rw c.first_at.ensures at c.in-None.ensures.key)

pub returns-clause-first : goal.returns-clause-first
returns-clause-first c = some_first (entries c.args.raises.now) (entries c.remove.new.self) c.in-Some.place.now c.remove.result c.first_from.ensures.rises (rw c.first_at.ensures at c.in-Some.ensures.key) c.remove.ensures.value c.remove.ensures.rest
