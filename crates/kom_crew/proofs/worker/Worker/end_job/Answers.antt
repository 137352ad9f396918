use Rattle.std.proofs.Common.{refl, ap, ◌∙◌}
use Rattle.kom_exchange.specs.declared.exchange.Seat.{Seat}
use Rattle.kom_crew.specs.declared.worker.Worker.{Worker}
use Rattle.kom_crew.proofs.Places.{called_at, same_idle, still_counted}
use Rattle.kom_crew.proofs.worker.Worker.end_job.Goals as goal

pub commit-requires-clause-seat : goal.commit-requires-clause-seat
commit-requires-clause-seat g c = (c.requires.0.table, c.requires.0.about)

pub commit-requires-clause-job : goal.commit-requires-clause-job
commit-requires-clause-job g c = c.requires.2

pub returns-in-Wakes-clause-stepped : goal.returns-in-Wakes-clause-stepped
returns-in-Wakes-clause-stepped g c =
    let old = c.args.self.now in
    let mid : Worker = record old { seat = c.commit.new.seat } in
    same_idle g.T.StandsFor.system g.T.StandsFor.plan g.T.StandsFor.history c.args.crew.now mid c.push_all.new.self c.push_all.ensures.rest.0 c.push_all.ensures.rest.1 c.push_all.ensures.lot (still_counted mid c.push_all.new.self c.push_all.ensures.given)
    (called_at g.T.StandsFor.system g.T.StandsFor.plan g.T.StandsFor.history c.args.crew.now old mid _ _ refl refl c.commit.ensures.seat c.commit.ensures.called c.commit.ensures.legal c.requires.0, c.requires.1, c.in-Wakes.ensures.hand)

pub returns-in-Wakes-clause-number : goal.returns-in-Wakes-clause-number
returns-in-Wakes-clause-number g c = ap (λ (s : Seat). s.number) c.push_all.ensures.rest.0 ∙ c.commit.ensures.seat.1

pub returns-in-Memory-clause-stepped : goal.returns-in-Memory-clause-stepped
returns-in-Memory-clause-stepped g c = (called_at g.T.StandsFor.system g.T.StandsFor.plan g.T.StandsFor.history c.args.crew.now c.args.self.now _ _ _ refl refl c.commit.ensures.seat c.commit.ensures.called c.commit.ensures.legal c.requires.0, c.in-Memory.ensures.hand)
