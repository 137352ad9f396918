use Rattle.std.specs.Arc.{arc_value}
use Rattle.kompics.specs.Runs.{simulated, IsRan}
use Rattle.kompics.proofs.Promising.{legal_of}
use Rattle.kompics.proofs.running.run_system.Goals as goal

pub invariant_of-result : goal.invariant_of-result
invariant_of-result c =
    let ran : IsRan simulated (arc_value c.in_ok-system.system).declarations c.args.plan c.in_ok-ran.ran = rw (c.in_ok-try_clone.ensures, c.in_ok-copy.ensures) at c.in_ok-ran.ensures in
    record { legal = legal_of simulated _ _ _ ran.record_is.kept; tallied = ran.tally_is }
