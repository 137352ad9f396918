use Rattle.kom_tables.proofs.Attributed.{among_there, among_missing}
use Rattle.kom_tables.proofs.event_table.EventTable.has_attribute.Goals as goal

pub returns-in-Some : goal.returns-in-Some
returns-in-Some c P are =
    among_there P c.args.self.now.attributes c.args.kind c.in-Some.names.now c.args.name.now c.is_in.result c.in-Some.ensures.value (are.attributes c.args.kind) (rw c.as_slice.ensures at c.is_in.ensures)

pub returns-in-None : goal.returns-in-None
returns-in-None c P are = among_missing P c.args.self.now.attributes c.args.kind c.args.name.now c.in-None.ensures.value (are.attributes c.args.kind)
