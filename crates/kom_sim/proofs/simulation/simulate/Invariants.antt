use Rattle.kom_sim.specs.Simulations.{IsBetween, IsSameRun, left}
use Rattle.kom_sim.proofs.simulation.simulate.Given as goal

abbrev pub invariant-loop-station : goal.invariant-loop-station
invariant-loop-station g l =
    IsSameRun g.T.StandsFor.system g.T.StandsFor.plan l.initial.station l.station
    × IsBetween (g.T.StandsFor.system l.initial.station).declarations (g.T.StandsFor.plan l.initial.station) (g.T.StandsFor.history l.station) l.line

abbrev pub decreases-loop-station : goal.decreases-loop-station
decreases-loop-station g l = left (g.T.StandsFor.plan l.initial.station) (g.T.StandsFor.history l.station)
