use Rattle.kom_trace.proofs.Sightings.{sighted}
use Rattle.kom_trace.proofs.scribe.Scribe.begin.Goals as goal

pub returns-clause-seen : goal.returns-clause-seen
returns-clause-seen c = sighted _ c.in_ok-known.ensures (c.new.ensures c.in_ok-names.names.declarations)
