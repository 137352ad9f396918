use Rattle.std.proofs.Common.{refl, ap, ◌∙◌}
use Rattle.kom_exchange.specs.Seats.{given_to, view}
use Rattle.kom_exchange.specs.declared.exchange.Seat.{Seat}
use Rattle.kom_crew.specs.declared.worker.Worker.{Worker}
use Rattle.kom_crew.proofs.Ending.{rest_over}
use Rattle.kom_crew.proofs.Places.{idle_works, rested, same_idle, still_counted}
use Rattle.kom_crew.proofs.worker.Worker.rest.Goals as goal

pub rest-requires : goal.rest-requires
rest-requires g c = record { seat = (c.requires.0.table, c.requires.0.about) }

pub returns-in-Moved-clause-stepped : goal.returns-in-Moved-clause-stepped
returns-in-Moved-clause-stepped g c =
    let old = c.args.self.now in
    let mid : Worker = record old { seat = c.rest.new.seat } in
    same_idle g.T.StandsFor.system g.T.StandsFor.plan g.T.StandsFor.history c.args.crew.now mid c.push_all.new.self c.push_all.ensures.rest.0 c.push_all.ensures.rest.1 c.push_all.ensures.lot (still_counted mid c.push_all.new.self c.push_all.ensures.given)
    (rested g.T.StandsFor.system g.T.StandsFor.plan g.T.StandsFor.history c.args.crew.now old mid _ _ refl refl refl c.rest.ensures.seat c.rest.ensures.called c.rest.ensures.legal c.rest.ensures.hand c.requires)

pub returns-in-Moved-clause-number : goal.returns-in-Moved-clause-number
returns-in-Moved-clause-number g c = ap (λ (s : Seat). s.number) c.push_all.ensures.rest.0 ∙ c.rest.ensures.seat.1

pub take-requires : goal.take-requires
take-requires g c = rested g.T.StandsFor.system g.T.StandsFor.plan g.T.StandsFor.history c.args.crew.now c.args.self.now _ _ _ refl refl refl c.rest.ensures.seat c.rest.ensures.called c.rest.ensures.legal c.rest.ensures.hand c.requires

pub returns-in-Ready-clause-number : goal.returns-in-Ready-clause-number
returns-in-Ready-clause-number g c = c.take.ensures.number ∙ c.rest.ensures.seat.1

pub returns-in-Waiting-clause-stepped : goal.returns-in-Waiting-clause-stepped
returns-in-Waiting-clause-stepped g c = rested g.T.StandsFor.system g.T.StandsFor.plan g.T.StandsFor.history c.args.crew.now c.args.self.now _ _ _ refl refl refl c.rest.ensures.seat c.rest.ensures.called c.rest.ensures.legal c.rest.ensures.hand c.requires

pub returns-in-End-clause-stepped : goal.returns-in-End-clause-stepped
returns-in-End-clause-stepped g c =
    let given = given_to c.args.crew.now.exchange in
    let called = c.rest.ensures.called in (
      rested g.T.StandsFor.system g.T.StandsFor.plan g.T.StandsFor.history c.args.crew.now c.args.self.now _ _ _ refl refl refl c.rest.ensures.seat c.rest.ensures.called c.rest.ensures.legal c.rest.ensures.hand c.requires,
      rest_over (g.T.StandsFor.system given).declarations (g.T.StandsFor.plan given) c.args.self.now.seat.number c.rest.result called.h (view c.rest.new.seat).own.seen c.in-End.is called.answer,
    )

pub returns-in-Memory-clause-stepped : goal.returns-in-Memory-clause-stepped
returns-in-Memory-clause-stepped g c =
    idle_works g.T.StandsFor.system g.T.StandsFor.plan g.T.StandsFor.history c.args.crew.now _
    (rested g.T.StandsFor.system g.T.StandsFor.plan g.T.StandsFor.history c.args.crew.now c.args.self.now _ _ _ refl refl refl c.rest.ensures.seat c.rest.ensures.called c.rest.ensures.legal c.rest.ensures.hand c.requires)
