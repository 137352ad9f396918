use Rattle.std.specs.Arc.{arc_value}
use Rattle.kom_core.proofs.tests.begun.Goals as goal

pub begin-requires : goal.begin-requires
begin-requires c = c.plan.ensures (arc_value c.in_ok-system.system).declarations
