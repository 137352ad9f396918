use Rattle.kom_sim.proofs.Handled.{its_legal, went_on, closed_ends}
use Rattle.kom_sim.proofs.turns.advance.Goals as goal

pub returns-in-Job-clause-turn : goal.returns-in-Job-clause-turn
returns-in-Job-clause-turn g c =
    went_on g.T.StandsFor.system g.T.StandsFor.plan g.T.StandsFor.history c.args.station.now c.find_job.new.station c.in-Job.job c.find_job.new.line c.handle.result (g.T.StandsFor.history c.handle.new.station) c.handle.new.line
    c.find_job.ensures.run c.in-Job.ensures.found c.handle.ensures.turn

pub returns-in-Closed-clause-turn : goal.returns-in-Closed-clause-turn
returns-in-Closed-clause-turn g c =
    closed_ends (g.T.StandsFor.system c.args.station.now).declarations (g.T.StandsFor.plan c.args.station.now) (g.T.StandsFor.history c.args.station.now) (g.T.StandsFor.history c.find_job.new.station) c.args.line.now
    c.in-Closed.ensures.found.0 c.in-Closed.ensures.found.1 c.requires
    (its_legal g.T.StandsFor.system g.T.StandsFor.plan g.T.StandsFor.history g.met.T.Station.legal c.args.station.now c.find_job.new.station c.find_job.ensures.run)
