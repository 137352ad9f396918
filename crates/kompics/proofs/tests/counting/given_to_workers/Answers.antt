use denote.Param.Send.{sendable}
use Rattle.kom_record.specs.Entries.{in_hand}
use Rattle.kompics.proofs.Crossing.{core_send}
use Rattle.kompics.proofs.tests.counting.given_to_workers.Goals as goal

pub run_crew_counted-crewed-requires-send-T : goal.run_crew_counted-crewed-requires-send-T
run_crew_counted-crewed-requires-send-T g c κs within = search (core_send, sendable)

pub run_crew_counted-crewed-requires-clause-idle : goal.run_crew_counted-crewed-requires-clause-idle
unfolding in_hand
run_crew_counted-crewed-requires-clause-idle g c κs within = rw c.in_ok-core.ensures.history
