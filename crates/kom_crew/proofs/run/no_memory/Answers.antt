use Rattle.std.proofs.Common.{refl, []}
use Rattle.kom_crew.proofs.run.no_memory.Goals as goal

pub returns : goal.returns
returns g c = record { same_system = refl; same_plan = refl; legal = g.met.T.Station.legal c.args.station; added = ([], refl, tt) }
