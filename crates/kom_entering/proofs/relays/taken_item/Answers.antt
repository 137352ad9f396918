use Rattle.std.proofs.Common.{rules}
use Rattle.kom_record.specs.Entries.{item_at}
use Rattle.kom_entering.proofs.relays.taken_item.Goals as goal

pub returns-in-Some-Took : goal.returns-in-Some-Took
unfolding item_at
returns-in-Some-Took c = search rules

pub returns-in-Some-Did : goal.returns-in-Some-Did
unfolding item_at
returns-in-Some-Did c = search rules

pub returns-in-Some-Moved : goal.returns-in-Some-Moved
unfolding item_at
returns-in-Some-Moved c = search rules

pub returns-in-None : goal.returns-in-None
unfolding item_at
returns-in-None c = search rules
