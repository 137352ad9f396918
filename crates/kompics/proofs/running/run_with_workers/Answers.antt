use denote.Param.Send.{sendable}
use Rattle.std.specs.Arc.{arc_value}
use Rattle.kompics.specs.Runs.{by_workers, IsRan}
use Rattle.kompics.proofs.Crossing.{core_send}
use Rattle.kompics.proofs.Promising.{legal_of}
use Rattle.kompics.proofs.running.run_with_workers.Goals as goal

pub crew-requires-send-T : goal.crew-requires-send-T
crew-requires-send-T g c κs within = search (core_send, sendable)

pub invariant_of-result : goal.invariant_of-result
invariant_of-result g c =
    let ran : IsRan (by_workers c.args.workers) (arc_value c.in_ok-system.system).declarations c.args.plan c.in_ok-ran.ran =
    rw (c.in_ok-core.ensures.system, c.in_ok-core.ensures.plan, c.in_ok-try_clone.ensures, c.in_ok-copy.ensures) at c.in_ok-ran.ensures in
    record { legal = legal_of (by_workers c.args.workers) _ _ _ ran.record_is.kept; tallied = ran.tally_is }
