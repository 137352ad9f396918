use Rattle.std.proofs.Common.{refl}
use Rattle.kom_seats.proofs.Placing.{rested}
use Rattle.kom_seats.proofs.calls.rest.Goals as goal

pub returns-in-Moved-clause-held : goal.returns-in-Moved-clause-held
returns-in-Moved-clause-held g c = rested g.T.StandsFor.system g.T.StandsFor.plan c.args.exchange.now c.args.placed.now _ _ _ refl c.rest.ensures.seat c.rest.ensures.called c.rest.ensures.legal c.rest.ensures.hand c.requires

pub returns-in-Ready-clause-held : goal.returns-in-Ready-clause-held
returns-in-Ready-clause-held g c = rested g.T.StandsFor.system g.T.StandsFor.plan c.args.exchange.now c.args.placed.now _ _ _ refl c.rest.ensures.seat c.rest.ensures.called c.rest.ensures.legal c.rest.ensures.hand c.requires

pub returns-in-Waiting-clause-held : goal.returns-in-Waiting-clause-held
returns-in-Waiting-clause-held g c = rested g.T.StandsFor.system g.T.StandsFor.plan c.args.exchange.now c.args.placed.now _ _ _ refl c.rest.ensures.seat c.rest.ensures.called c.rest.ensures.legal c.rest.ensures.hand c.requires

pub returns-in-End-clause-held : goal.returns-in-End-clause-held
returns-in-End-clause-held g c = rested g.T.StandsFor.system g.T.StandsFor.plan c.args.exchange.now c.args.placed.now _ _ _ refl c.rest.ensures.seat c.rest.ensures.called c.rest.ensures.legal c.rest.ensures.hand c.requires

pub returns-in-Closed-clause-held : goal.returns-in-Closed-clause-held
returns-in-Closed-clause-held g c = rested g.T.StandsFor.system g.T.StandsFor.plan c.args.exchange.now c.args.placed.now _ _ _ refl c.rest.ensures.seat c.rest.ensures.called c.rest.ensures.legal c.rest.ensures.hand c.requires

pub returns-in-Memory-clause-held : goal.returns-in-Memory-clause-held
returns-in-Memory-clause-held g c = rested g.T.StandsFor.system g.T.StandsFor.plan c.args.exchange.now c.args.placed.now _ _ _ refl c.rest.ensures.seat c.rest.ensures.called c.rest.ensures.legal c.rest.ensures.hand c.requires
