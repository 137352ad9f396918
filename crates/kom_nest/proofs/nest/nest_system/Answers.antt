use Rattle.kom_system.specs.Contents.{contents_of}
use Rattle.kom_nest.proofs.Made.{nest_fits}
use Rattle.kom_nest.proofs.nest.nest_system.Goals as goal

pub from_declared-requires : goal.from_declared-requires
from_declared-requires c = nest_fits (contents_of c.in_ok-declared.declared) c.in_ok-declared.ensures
