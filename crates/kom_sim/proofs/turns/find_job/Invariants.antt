use Rattle.std.proofs.Common.{◌≡◌, length}
use Rattle.kom_sim.specs.Simulations.{IsBetween, IsSameRun}
use Rattle.kom_sim.proofs.turns.find_job.Given as goal

abbrev pub invariant-loop-c : goal.invariant-loop-c
invariant-loop-c g l =
    IsSameRun g.T.StandsFor.system g.T.StandsFor.plan l.initial.station l.station
    × (g.T.StandsFor.history l.station ≡ g.T.StandsFor.history l.initial.station)
    × IsBetween (g.T.StandsFor.system l.initial.station).declarations (g.T.StandsFor.plan l.initial.station) (g.T.StandsFor.history l.initial.station) l.line

abbrev pub decreases-loop-c : goal.decreases-loop-c
decreases-loop-c g l = length l.line
