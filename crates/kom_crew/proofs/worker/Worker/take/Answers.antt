use Rattle.std.proofs.Common.{refl, ◌∙◌}
use Rattle.kom_exchange.specs.Seats.{given_to, view}
use Rattle.kom_crew.proofs.Ending.{closed_at}
use Rattle.kom_crew.proofs.Places.{called_at, idle_works}
use Rattle.kom_crew.proofs.worker.Worker.take.Goals as goal

pub take-requires-clause-seat : goal.take-requires-clause-seat
take-requires-clause-seat g c = (c.requires.0.table, c.requires.0.about)

pub take-requires-clause-free : goal.take-requires-clause-free
take-requires-clause-free g c = c.requires.2

pub handle-requires : goal.handle-requires
handle-requires g c = (called_at g.T.StandsFor.system g.T.StandsFor.plan g.T.StandsFor.history c.args.crew.now c.args.self.now _ _ _ refl refl c.take.ensures.seat c.take.ensures.called c.take.ensures.legal c.requires.0, c.requires.1, c.in-Job.ensures.job)

pub returns-in-Job-clause-number : goal.returns-in-Job-clause-number
returns-in-Job-clause-number g c = c.handle.ensures.number ∙ c.take.ensures.seat.1

pub returns-in-Nothing-clause-stepped : goal.returns-in-Nothing-clause-stepped
returns-in-Nothing-clause-stepped g c = (called_at g.T.StandsFor.system g.T.StandsFor.plan g.T.StandsFor.history c.args.crew.now c.args.self.now _ _ _ refl refl c.take.ensures.seat c.take.ensures.called c.take.ensures.legal c.requires.0, c.requires.1, c.in-Nothing.ensures.job)

pub returns-in-Closed-clause-stepped : goal.returns-in-Closed-clause-stepped
returns-in-Closed-clause-stepped g c =
    let given = given_to c.args.crew.now.exchange in
    let called = c.in-Closed.ensures.called in (
      (called_at g.T.StandsFor.system g.T.StandsFor.plan g.T.StandsFor.history c.args.crew.now c.args.self.now _ _ _ refl refl c.take.ensures.seat c.take.ensures.called c.take.ensures.legal c.requires.0, c.requires.1, c.in-Closed.ensures.job),
      closed_at (g.T.StandsFor.system given).declarations (g.T.StandsFor.plan given) called.h (view c.take.new.seat).own.seen called.answer.0 called.answer.1,
    )

pub returns-in-Memory-clause-stepped : goal.returns-in-Memory-clause-stepped
returns-in-Memory-clause-stepped g c =
    idle_works g.T.StandsFor.system g.T.StandsFor.plan g.T.StandsFor.history c.args.crew.now _
    (called_at g.T.StandsFor.system g.T.StandsFor.plan g.T.StandsFor.history c.args.crew.now c.args.self.now _ _ _ refl refl c.take.ensures.seat c.take.ensures.called c.take.ensures.legal c.requires.0, c.requires.1, c.in-Memory.ensures.job)
