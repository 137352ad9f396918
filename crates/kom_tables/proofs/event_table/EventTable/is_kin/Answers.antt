use Rattle.kom_rules.specs.Spaces.{event_rows}
use Rattle.kom_tables.proofs.Attributed.{no_kin}
use Rattle.kom_tables.proofs.event_table.EventTable.is_kin.Goals as goal

pub returns-in-None : goal.returns-in-None
returns-in-None c P are = no_kin c.args.self.now.lines (event_rows P) c.args.a c.args.b c.in-None.ensures.value (are.lines c.args.a)
