use Rattle.kom_system.specs.Contents.{contents_of}
use Rattle.kom_loads.proofs.Made.{ring_fits}
use Rattle.kom_loads.proofs.ring.ring_system.Goals as goal

pub from_declared-requires : goal.from_declared-requires
from_declared-requires c = ring_fits (contents_of c.in_ok-declared.declared) c.in_ok-declared.ensures
