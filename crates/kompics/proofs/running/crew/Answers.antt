use Rattle.kom_record.specs.Entries.{in_hand}
use Rattle.kompics.specs.Runs.{by_workers}
use Rattle.kompics.proofs.Promising.{crew_keeps}
use Rattle.kompics.proofs.running.crew.Goals as goal

pub run_crew-requires-clause-idle : goal.run_crew-requires-clause-idle
unfolding in_hand
run_crew-requires-clause-idle g c κs within = rw c.requires.empty

pub returns-in-Ended : goal.returns-in-Ended
returns-in-Ended g c =
    let driven = c.in-Ended.ensures.driven in
    let station = c.into_station.ensures in
    rw (station, driven.same_system, driven.same_plan) at
    (c.ended.ensures (by_workers c.args.workers)
    (rw (station, driven.same_system, driven.same_plan) (crew_keeps _ _ _ c.args.station c.args.workers c.requires.empty c.in-Ended.shut c.in-Ended.ensures)))
