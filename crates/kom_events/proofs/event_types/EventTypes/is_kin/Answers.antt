use Rattle.kom_events.proofs.Walks.{no-kin}
use Rattle.kom_events.proofs.event_types.EventTypes.is_kin.Goals as goal

pub returns-in-None : goal.returns-in-None
returns-in-None c = no-kin c.self.inside.ancestors c.self.inside.rows c.args.self.now c.args.a c.args.b (c.self.invariant c.args.a) c.in-None.ensures.value c.self.view_is
