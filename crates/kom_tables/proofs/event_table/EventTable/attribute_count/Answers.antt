use Rattle.kom_tables.proofs.Attributed.{count_there, count_missing}
use Rattle.kom_tables.proofs.event_table.EventTable.attribute_count.Goals as goal

pub returns-in-Some : goal.returns-in-Some
returns-in-Some c P are = count_there P c.args.self.now.attributes c.args.kind c.in-Some.names.now c.len.result c.in-Some.ensures.value (are.attributes c.args.kind) c.len.ensures

pub returns-in-None : goal.returns-in-None
returns-in-None c P are = count_missing P c.args.self.now.attributes c.args.kind c.in-None.ensures.value (are.attributes c.args.kind)
